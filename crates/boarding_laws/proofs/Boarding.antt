-- Today's boarding has the four numbers that it had: of frequency boarding window by window, then of a trip with windows or without.
use Prim.Native.Nat.{ℕ, ◌-◌}
use mathlib.Core.Path.{◌≡◌, refl, ap, ◌∙◌}
use mathlib.Core.Bool.{Bool, true, false, cond}
use Rattle.std.specs.Prelude.{Option, None, Some}
use lib.Dec.{ltb, leb}
use Rattle.loops.specs.Iter.{Hit, hit, miss}
use Rattle.loops.proofs.Iter.{iter_as}
use Rattle.frequency.specs.declared.BoardedRun.{BoardedRun}
use Rattle.frequency.specs.Gtfs.{Window, first_run, board_hit, window_board, earlier_of, board_next, earliest_freq_board}
use Rattle.model.specs.Tables.{Tables, Query, departure, no_windows}
use Rattle.model.specs.Search.{trip_window, departure_now, board_at}
use Rattle.boarding_laws.specs.Boarding.{hit_before, earlier_before, next_before, earliest_before, board_before, run_before, as_before}

-- the run found in a window
same_hit : (w : Window) (i base dep after : ℕ) (h : Hit) → as_before (board_hit w i base dep after h) ≡ hit_before w i base dep h
same_hit w i base dep after (hit k) = refl
same_hit w i base dep after miss = refl

-- the earlier of two
same_earlier : (a b : Option BoardedRun) → as_before (earlier_of a b) ≡ earlier_before (as_before a) (as_before b)
same_earlier None b = refl
same_earlier (Some a) None = refl
same_earlier (Some a) (Some b) = go (leb a.departure b.departure)
  where
    go : (x : Bool) → as_before (cond x (Some a) (Some b)) ≡ cond x (Some (run_before a)) (Some (run_before b))
    go true = refl
    go false = refl

pub same_frequency : (n : ℕ) (window : ℕ → Window) (base dep after : ℕ)
    → as_before (earliest_freq_board n window base dep after) ≡ earliest_before n window base dep after
unfolding earliest_freq_board earliest_before
same_frequency n window base dep after =
    iter_as as_before (board_next window base dep after) (next_before window base dep after) 0 (n - 0) None
    (λ k x l u. same_earlier x (window_board (window k) k base dep after)
    ∙ ap (earlier_before (as_before x)) (same_hit (window k) k base dep after (first_run (window k) base dep after)))

module _ (T : Tables) (Q : Query) (adj : Hit) (t o after : ℕ) where
  pub same_board : as_before (board_at T Q adj t o after) ≡ board_before T Q adj t o after
  unfolding board_at board_before
  same_board = go (no_windows T t) (ltb dep after) _
    where
      dep : ℕ
      dep = departure_now T Q adj t o

      runs : Option BoardedRun
      runs = earliest_freq_board (T.timetable.trip t).windows (trip_window T t) (departure T t 0) dep after

      -- b, the trip has no windows; c, it left before; r, its one run
      go : (b c : Bool) (r : BoardedRun)
          → as_before (elim b [ true ↦ elim c [ true ↦ None | false ↦ Some r ] | false ↦ runs ])
          ≡ elim b [
            | true ↦ elim c [ true ↦ None | false ↦ Some (run_before r) ]
            | false ↦ earliest_before (T.timetable.trip t).windows (trip_window T t) (departure T t 0) dep after
          ]
      go true true r = refl
      go true false r = refl
      go false c r = same_frequency (T.timetable.trip t).windows (trip_window T t) (departure T t 0) dep after
