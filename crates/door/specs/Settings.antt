-- THE SETTINGS OF THE HOUSE (request T-07): four numbers that every call receives. Definitions only.
use Rattle.std.specs.Prelude.{ℕ, ◌≤◌, Bool, ◌&&◌, leb}
use Rattle.door.specs.declared.Settings.{Settings}
use Rattle.door.specs.Door.{ask, time_limit}

-- the Rust's four numbers
abbrev pub default_settings : Settings
default_settings = record { transfer_time = 120; line_scan = 64; candidate_slack = 3600; margin_cap = 21600 }

-- the largest of each; the trips tried in a line are at least 1, the others at least 0
abbrev pub transfer_time_limit : ℕ
transfer_time_limit = 3600

abbrev pub line_scan_limit : ℕ
line_scan_limit = 4096

abbrev pub candidate_slack_limit : ℕ
candidate_slack_limit = 21600

abbrev pub margin_cap_limit : ℕ
margin_cap_limit = time_limit

-- QUESTION 14: is every setting in its range?
unfoldable pub settings_ok : Settings → Bool
settings_ok S =
    (leb S.transfer_time transfer_time_limit && (leb 1 S.line_scan && leb S.line_scan line_scan_limit))
    && (leb S.candidate_slack candidate_slack_limit && leb S.margin_cap margin_cap_limit)

-- asked of a call that asks nothing else; and of one that then asks question 5 (is every time and code in its range?)
abbrev pub settings_asked : Settings → ℕ
settings_asked S = ask 14 (settings_ok S) 0

abbrev pub ranges_asked : Settings → Bool → ℕ
ranges_asked S ranged = ask 14 (settings_ok S) (ask 5 ranged 0)

-- what a yes to question 14 gives, for the functions behind a door
pub record SettingsIn (S : Settings) : Type 0 where
  pub transfer_time : S.transfer_time ≤ transfer_time_limit
  pub some_trip : 1 ≤ S.line_scan
  pub line_scan : S.line_scan ≤ line_scan_limit
  pub candidate_slack : S.candidate_slack ≤ candidate_slack_limit
  pub margin_cap : S.margin_cap ≤ margin_cap_limit
