-- Walks and rounds (document 01, item 2). Definitions only.
use Rattle.std.specs.Prelude.{ℕ, ◌+◌, ◌*◌, min, max, Bool, cond, ◌&&◌, ◌||◌, eqb}

-- The fields of GTFS pathways.txt, in our words: `pathway_mode` says what a pathway is: 1 walkway, 2 stairs, 3 moving sidewalk, 4 escalator,
-- 5 elevator, 6 fare gate, 7 exit gate; `traversal_time` is the seconds that it takes on average. A walk edge that is no pathway has mode 0.
-- GTFS does not say how a wheelchair passes stairs or an escalator; document 01 does (docs/DIFFERENCES.md 9).
abbrev pub stairs : ℕ
stairs = 2

abbrev pub escalator : ℕ
escalator = 4

-- the pathways that a wheelchair query takes at 100 times their duration
abbrev pub stairs_or_escalator : ℕ → Bool
stairs_or_escalator mode = eqb mode stairs || eqb mode escalator

-- a walk's duration in a query: its own; for a wheelchair query, 100 times that on stairs and escalators
unfoldable pub effective_duration : ℕ → ℕ → Bool → ℕ
effective_duration duration mode wheelchair = cond (wheelchair && stairs_or_escalator mode) (duration * 100) duration

-- the round count for these wanted rounds and transfers
unfoldable pub round_count : ℕ → ℕ → ℕ
round_count wanted transfers = min 12 (max wanted (max (transfers + 2) 4))
