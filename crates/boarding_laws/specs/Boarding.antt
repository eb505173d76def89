-- BOARDING AS IT WAS before document 02's T-02, with a record of its own: departure, shift, window and run, and nothing else.
-- It is a restatement of `earliest_freq_board` (`frequency` specs/Gtfs) and `board_at` (`model` specs/Search) as they stood then, so that a change of
-- today's record can be held against it. Windows, their runs and which run is a window's first to board are today's: they are not restated. It is
-- no second definition of boarding: today's is the one that contracts rest on, and it never refers to this one.
-- Definitions only.
-- For a law: no contract rests on this.
use Rattle.std.specs.Prelude.{ℕ, ◌+◌, ◌-◌, true, false, cond, ltb, leb, Option, None, Some}
use Rattle.std.proofs.Math.IntN.{sub_ℕ}
use Rattle.loops.specs.Iter.{Hit, hit, miss, range}
use Rattle.signed.specs.Signed.{bits_of}
use Rattle.frequency.specs.declared.BoardedRun.{BoardedRun}
use Rattle.frequency.specs.Gtfs.{Window, run_start, first_run}
use Rattle.model.specs.Tables.{Tables, Query, departure, no_windows}
use Rattle.model.specs.Search.{trip_window, departure_now}

-- how a trip is boarded: its departure, its time shift as the bits of an i32, its window and its run
pub record BoardedBefore : Type 0 where
  pub departure : ℕ
  pub shift : ℕ
  pub window : ℕ
  pub run : ℕ

-- boarding run k of window i, which starts at t
abbrev pub start_before : (start window base dep run : ℕ) → Option BoardedBefore
start_before t i base dep k = Some (record { departure = t + dep - base; shift = bits_of (sub_ℕ t base); window = i; run = k })

abbrev pub hit_before : Window → ℕ → ℕ → ℕ → Hit → Option BoardedBefore
hit_before w i base dep (hit k) = start_before (run_start w k) i base dep k
hit_before w i base dep miss = None

-- the one that departs earlier; equal ones keep the first
abbrev pub earlier_before : Option BoardedBefore → Option BoardedBefore → Option BoardedBefore
earlier_before None b = b
earlier_before (Some a) None = Some a
earlier_before (Some a) (Some b) = cond (leb a.departure b.departure) (Some a) (Some b)

-- window i is looked at, after the best of those before it
abbrev pub next_before : (window : ℕ → Window) (base dep after i : ℕ) (best : Option BoardedBefore) → Option BoardedBefore
next_before window base dep after i best = earlier_before best (hit_before (window i) i base dep (first_run (window i) base dep after))

-- over n windows, the earliest
unfoldable pub earliest_before : (n : ℕ) (window : ℕ → Window) (base dep after : ℕ) → Option BoardedBefore
earliest_before n window base dep after = range (next_before window base dep after) 0 n None

-- BOARDING trip t at offset o, not before `after`. A frequency trip: its earliest run.
unfoldable pub board_before : Tables → Query → Hit → ℕ → ℕ → ℕ → Option BoardedBefore
board_before T Q adj t o after =
    elim (no_windows T t) [
      | true ↦ elim (ltb (departure_now T Q adj t o) after) [
        | true ↦ None
        | false ↦ let dep = departure_now T Q adj t o in
            Some (record { departure = dep; shift = bits_of (sub_ℕ dep (departure T t o)); window = 0; run = 0 })
      ]
      | false ↦ earliest_before (T.timetable.trip t).windows (trip_window T t) (departure T t 0) (departure_now T Q adj t o) after
    ]

-- TODAY'S BOARDING, AS IT WAS: of its record the four numbers, whatever else it has
abbrev pub run_before : BoardedRun → BoardedBefore
run_before b = record { departure = b.departure; shift = b.time_shift_s; window = b.headways.window; run = b.headways.run }

abbrev pub as_before : Option BoardedRun → Option BoardedBefore
as_before None = None
as_before (Some b) = Some (run_before b)
