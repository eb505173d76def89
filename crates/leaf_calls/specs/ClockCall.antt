-- Clock readings of a service day (document 01, item 11). Definitions only.
-- A service day goes on past midnight, so hours run to 47 (GTFS writes 25:10:00 for ten past one in the next night).
use Rattle.std.specs.Prelude.{ℕ, ◌+◌, ◌*◌, Bool, ◌&&◌, leb}
use Rattle.door.specs.Door.{answer}
use Rattle.door.specs.Settings.{ranges_asked}
use Rattle.door.specs.declared.Settings.{Settings}
use Rattle.door.specs.declared.Answer.{Answer}

-- a clock reading: hours 0 to 47, minutes and seconds 0 to 59
abbrev pub clock_in_range : ℕ → ℕ → ℕ → Bool
clock_in_range h m s = leb h 47 && leb m 59 && leb s 59

-- its seconds since 00:00:00
abbrev pub reading : ℕ → ℕ → ℕ → ℕ
reading h m s = 3600 * h + 60 * m + s

-- the answer: the service second, which is the reading's seconds; 5 for what is no clock reading
abbrev pub service_second : Settings → ℕ → ℕ → ℕ → Answer
service_second S h m s = answer (ranges_asked S (clock_in_range h m s)) (reading h m s)
