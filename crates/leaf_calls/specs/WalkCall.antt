-- The calls of the walk's duration and of the rounds: questions 14 and 5, and what each answers. Durations and rounds themselves: `walk_time`
-- specs/Walk. Definitions only.
use Rattle.std.specs.Prelude.{ℕ, Bool, ◌&&◌, leb, eqb}
use Rattle.door.specs.Door.{answer, time_limit}
use Rattle.door.specs.Settings.{settings_asked, ranges_asked}
use Rattle.door.specs.declared.Settings.{Settings}
use Rattle.door.specs.declared.Answer.{Answer}
use Rattle.walk_time.specs.Walk.{effective_duration, round_count}

-- question 5 of the walk's call: the duration is at most 1,048,575 seconds, the mode one of 0 to 7, wheelchair 0 or 1
abbrev pub walk_in_range : ℕ → ℕ → ℕ → Bool
walk_in_range duration mode wheelchair = leb duration time_limit && leb mode 7 && leb wheelchair 1

-- the answer of the walk's call: the duration in a query that is a wheelchair query exactly if `wheelchair` is 1
abbrev pub walk_duration : Settings → ℕ → ℕ → ℕ → Answer
walk_duration S duration mode wheelchair =
    answer (ranges_asked S (walk_in_range duration mode wheelchair)) (effective_duration duration mode (eqb wheelchair 1))

-- the rounds of a query, of any numbers
abbrev pub rounds_answer : Settings → ℕ → ℕ → Answer
rounds_answer S wanted transfers = answer (settings_asked S) (round_count wanted transfers)
