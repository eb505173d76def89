-- What the call tells, on every input.
use Prim.Native.Nat.{ℕ, zero, suc, ◌*◌}
use mathlib.Core.Path.{◌≡◌, refl, subst}
use mathlib.Core.List.{List}
use native.Mathlib.Omega.{arith}
use lib.Dec.{eqb, leb}
use lib.ListN.{length}
use borrow.Author.Tests.{eqb-true}
use Rattle.door.specs.Door.{ask}
use Rattle.door.specs.Settings.{settings_ok}
use Rattle.door.specs.declared.Settings.{Settings}
use Rattle.door.proofs.Laws.{ask_yes, ask_later}
use Rattle.std.specs.Prelude.{Option, None, Some}
use Rattle.frequency.specs.declared.BoardedRun.{BoardedRun}
use Rattle.frequency.specs.Gtfs.{window_count, window_in, earliest_freq_board}
use Rattle.frequency.specs.Reading.{Boards, Earliest}
use Rattle.frequency.proofs.Reading.{board_is, nothing_is}
use Rattle.frequency.proofs.Waits.{board_waits}
use Rattle.frequency_call.specs.FrequencyCall.{freq_in_range, window_limit, freq_code, freq_answer, freq_outcome}
use Rattle.frequency_call.specs.Told.{FreqTold, FreqLaws}
use Rattle.frequency_call.proofs.FrequencyCall.{counted}

module _ (S : Settings) (count : ℕ) (ws : List ℕ) (base dep after : ℕ) where
  -- all questions are answered yes: the windows are those that were counted
  windows_are : freq_code S count ws base dep after ≡ 0 → window_count ws ≡ count
  windows_are e =
      let fits = ask 5 (freq_in_range ws base dep after) 0 in
      let lengths = ask 2 (eqb (length ws) (3 * count)) fits in
      let asked = ask_later 13 (settings_ok S) lengths (ask_later 0 (leb count window_limit) (ask 14 (settings_ok S) lengths) e) in
      counted count ws (eqb-true (length ws) (3 * count) (ask_yes 1 (eqb (length ws) (3 * count)) fits asked))

  told : FreqTold count ws base dep after (freq_outcome S count ws base dep after)
  told = go (freq_code S count ws base dep after) refl (earliest_freq_board (window_count ws) (window_in ws) base dep after) refl
    where
      go : (n : ℕ) → freq_code S count ws base dep after ≡ n → (b : Option BoardedRun) → earliest_freq_board (window_count ws) (window_in ws) base dep after ≡ b
          → FreqTold count ws base dep after (freq_answer n b)
      go zero e None f =
          record {
            found_or_none = omega arith;
            zeros = λ z. refl;
            none = λ c z. subst (λ (m : ℕ). (i k : ℕ) → Boards m (window_in ws) base dep after i k → ⊥) (windows_are e) (nothing_is (window_in ws) base dep after (window_count ws) f);
            found = λ z. absurd (omega (arith, z));
            waiting = λ z. absurd (omega (arith, z));
          }
      go zero e (Some b) f =
          record {
            found_or_none = omega arith;
            zeros = λ z. absurd (omega (arith, z));
            none = λ c z. absurd (omega (arith, z));
            found = λ z. (refl, subst (λ (m : ℕ). Earliest m (window_in ws) base dep after b) (windows_are e) (board_is (window_in ws) base dep after (window_count ws) b f));
            waiting = λ z. board_waits (window_in ws) base dep after (window_count ws) b f;
          }
      go (suc n) e b f =
          record {
            found_or_none = omega arith;
            zeros = λ z. refl;
            none = λ c z. absurd (omega (arith, c));
            found = λ z. absurd (omega (arith, z));
            waiting = λ z. absurd (omega (arith, z));
          }

pub freq_told : FreqLaws
freq_told = record { tells = told }
