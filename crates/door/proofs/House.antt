-- What a yes to question 14 gives, and the ends of each range.
use Prim.Native.Nat.{ℕ}
use mathlib.Core.Path.{◌≡◌, refl}
use mathlib.Core.Bool.{Bool, true, false, ◌&&◌, and-eq-true_iff}
use mathlib.Core.List.{List, [], ◌∷◌}
use lib.Dec.{leb}
use borrow.Author.Tests.{leb-true}
use Rattle.door.specs.declared.Settings.{Settings}
use Rattle.door.specs.Settings.{default_settings, transfer_time_limit, line_scan_limit, candidate_slack_limit, margin_cap_limit, settings_ok, SettingsIn}

pub settings_yes : (S : Settings) → settings_ok S ≡ true → SettingsIn S
unfolding settings_ok
settings_yes S h =
    let tried = leb 1 S.line_scan && leb S.line_scan line_scan_limit in
    let time = leb S.transfer_time transfer_time_limit in
    let slack = leb S.candidate_slack candidate_slack_limit in
    let cap = leb S.margin_cap margin_cap_limit in
    let a = (and-eq-true_iff (time && tried) (slack && cap)).0 h in
    let b = (and-eq-true_iff time tried).0 a.0 in
    let c = (and-eq-true_iff (leb 1 S.line_scan) (leb S.line_scan line_scan_limit)).0 b.1 in
    let d = (and-eq-true_iff slack cap).0 a.1 in
    record {
      transfer_time = leb-true S.transfer_time transfer_time_limit b.0;
      some_trip = leb-true 1 S.line_scan c.0;
      line_scan = leb-true S.line_scan line_scan_limit c.1;
      candidate_slack = leb-true S.candidate_slack candidate_slack_limit d.0;
      margin_cap = leb-true S.margin_cap margin_cap_limit d.1;
    }

-- THE ENDS of each range, and one past them, as one computed check
abbrev pub four : ℕ → ℕ → ℕ → ℕ → Settings
four a b c d = record { transfer_time = a; line_scan = b; candidate_slack = c; margin_cap = d }

-- no trip of a line is tried
abbrev pub no_trip_tried : Settings
no_trip_tried = four 120 0 3600 21600

pub ends : List (Settings × Bool)
ends =
    (default_settings, true)
    ∷ (four 0 1 0 0, true)
    ∷ (four 3600 4096 21600 1048575, true)
    ∷ (four 3601 64 3600 21600, false)
    ∷ (no_trip_tried, false)
    ∷ (four 120 4097 3600 21600, false)
    ∷ (four 120 64 21601 21600, false)
    ∷ (four 120 64 3600 1048576, false)
    ∷ []

agree : Bool → Bool → Bool
agree true b = b
agree false true = false
agree false false = true

pub all_agree : List (Settings × Bool) → Bool
all_agree [] = true
all_agree (e ∷ es) = agree (settings_ok e.0) e.1 && all_agree es

pub ends_worked : all_agree ends ≡ true
unfolding all_agree agree ends settings_ok
ends_worked = refl
