-- What a boarding inside a query tells, of every tables and query.
use Prim.Native.Nat.{ℕ, ◌+◌}
use mathlib.Core.Path.{◌≡◌, refl, ap, sym, subst}
use mathlib.Core.Bool.{Bool, true, false}
use Rattle.std.specs.Prelude.{Option, None, Some}
use native.Mathlib.Omega.{arith}
use lib.Dec.{ltb}
use borrow.Author.Tests.{ltb-false}
use Rattle.loops.specs.Iter.{Hit}
use Rattle.loops.proofs.Search.{clash}
use Rattle.frequency.specs.declared.BoardedRun.{BoardedRun}
use Rattle.frequency.specs.Gtfs.{no_headways, board_ordinary, earliest_freq_board}
use Rattle.frequency.specs.Reading.{Earliest}
use Rattle.frequency.specs.Waits.{Waits}
use Rattle.frequency.proofs.Reading.{board_is}
use Rattle.frequency.proofs.Waits.{board_waits}
use Rattle.event_transfers.specs.Transfers.{Transfer}
use Rattle.model.specs.Tables.{Tables, Query, departure, no_windows}
use Rattle.model.specs.Search.{delay_of, departure_now, trip_window, board_at, resolve}
use Rattle.answer_laws.proofs.Phases.{Found, found, resolve_finds}
use Rattle.boarding_laws.specs.Waiting.{QueryBoards}

module _ (T : Tables) (Q : Query) where
  -- how one boards: a trip without windows where it does not leave too early, else the earliest run
  data Boarding (adj : Hit) (t o after : ℕ) (b : BoardedRun) : Type 0 where
    scheduled : no_windows T t ≡ true → ltb (departure_now T Q adj t o) after ≡ false → b ≡ board_ordinary (departure T t o) (departure_now T Q adj t o) after
        → Boarding adj t o after b
    running : no_windows T t ≡ false → earliest_freq_board (T.timetable.trip t).windows (trip_window T t) (departure T t 0) (departure_now T Q adj t o) after ≡ Some b
        → Boarding adj t o after b

  told : Option BoardedRun → BoardedRun → BoardedRun
  told None d = d
  told (Some b) d = b

  is_board : Option BoardedRun → Bool
  is_board None = false
  is_board (Some b) = true

  boarding_is : (adj : Hit) (t o after : ℕ) (b : BoardedRun) → board_at T Q adj t o after ≡ Some b → Boarding adj t o after b
  unfolding board_at told is_board
  boarding_is adj t o after b e = go (no_windows T t) refl (ltb (departure_now T Q adj t o) after) refl e
    where
      planned : BoardedRun
      planned = board_ordinary (departure T t o) (departure_now T Q adj t o) after

      runs : Option BoardedRun
      runs = earliest_freq_board (T.timetable.trip t).windows (trip_window T t) (departure T t 0) (departure_now T Q adj t o) after

      go : (x : Bool) → no_windows T t ≡ x → (y : Bool) → ltb (departure_now T Q adj t o) after ≡ y
          → elim x as (λ z. Option BoardedRun) [ true ↦ elim y [ true ↦ None | false ↦ Some planned ] | false ↦ runs ] ≡ Some b → Boarding adj t o after b
      go true p true q f = absurd (clash (ap is_board f) refl)
      go true p false q f = scheduled p q (sym (ap (λ (z : Option BoardedRun). told z planned) f))
      go false p y q f = running p f

  ordinary_waits : (planned dep after : ℕ) → ltb dep after ≡ false → (board_ordinary planned dep after).wait + after ≡ dep
  ordinary_waits planned dep after q = omega (arith, ltb-false dep after q)

  waits : (adj : Hit) (t o after : ℕ) (b : BoardedRun) → board_at T Q adj t o after ≡ Some b → b.wait + after ≡ b.departure
  waits adj t o after b e = of (boarding_is adj t o after b e)
    where
      of : Boarding adj t o after b → b.wait + after ≡ b.departure
      of (scheduled p q f) = subst (λ (x : BoardedRun). x.wait + after ≡ x.departure) (sym f) (ordinary_waits (departure T t o) (departure_now T Q adj t o) after q)
      of (running p f) = (board_waits (trip_window T t) (departure T t 0) (departure_now T Q adj t o) after (T.timetable.trip t).windows b f).waits

  ordinary : (adj : Hit) (t o after : ℕ) (b : BoardedRun) → no_windows T t ≡ true → board_at T Q adj t o after ≡ Some b
      → (b.headways ≡ no_headways) × (b.departure ≡ departure_now T Q adj t o)
  ordinary adj t o after b w e = of (boarding_is adj t o after b e)
    where
      of : Boarding adj t o after b → (b.headways ≡ no_headways) × (b.departure ≡ departure_now T Q adj t o)
      of (scheduled p q f) = (ap (λ (x : BoardedRun). x.headways) f, ap (λ (x : BoardedRun). x.departure) f)
      of (running p f) = absurd (clash w p)

  frequent : (adj : Hit) (t o after : ℕ) (b : BoardedRun) → no_windows T t ≡ false → board_at T Q adj t o after ≡ Some b
      → Earliest (T.timetable.trip t).windows (trip_window T t) (departure T t 0) (departure_now T Q adj t o) after b
      × Waits (trip_window T t b.headways.window) (departure T t 0) (departure_now T Q adj t o) after b
  frequent adj t o after b w e = of (boarding_is adj t o after b e)
    where
      of : Boarding adj t o after b
          → Earliest (T.timetable.trip t).windows (trip_window T t) (departure T t 0) (departure_now T Q adj t o) after b
          × Waits (trip_window T t b.headways.window) (departure T t 0) (departure_now T Q adj t o) after b
      of (scheduled p q f) = absurd (clash p w)
      of (running p f) = (
        board_is (trip_window T t) (departure T t 0) (departure_now T Q adj t o) after (T.timetable.trip t).windows b f,
        board_waits (trip_window T t) (departure T t 0) (departure_now T Q adj t o) after (T.timetable.trip t).windows b f,
      )

  resolves : (e : Transfer) (after best t : ℕ) (b : BoardedRun) → resolve T Q e after best ≡ Some (t, b)
      → board_at T Q (delay_of Q t) t e.offset after ≡ Some b
  resolves e after best t b f = of (subst (Found T Q e.offset after) f (resolve_finds T Q e after best))
    where
      of : Found T Q e.offset after (Some (t, b)) → board_at T Q (delay_of Q t) t e.offset after ≡ Some b
      of (found B z) = subst (λ (x : ℕ). board_at T Q (delay_of Q t) t e.offset x ≡ Some b) z B.boards

pub query_boards : (T : Tables) (Q : Query) → QueryBoards T Q
query_boards T Q = record { waits = waits T Q; ordinary = ordinary T Q; frequent = frequent T Q; resolves = resolves T Q }
