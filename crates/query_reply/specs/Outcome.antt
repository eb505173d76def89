-- THE CALLS `run_tbr` and `query` (document 01, items 9 and 10): what they answer, and what every lent slice holds then. Definitions only.
use Rattle.std.specs.Prelude.{ℕ, zero, suc, ◌*◌, ◌-◌, ◌/◌, Bool, true, false, List, [], ◌∷◌, ◌++◌, length, replicate, Float}
use Rattle.label.specs.Label.{no_distance}
use Rattle.label.specs.Table.{words_of_all, distances_of_all}
use Rattle.model.specs.Search.{SearchAnswer, overflows}
use Rattle.query_types.specs.declared.Lengths.{Lengths}
use Rattle.query_reply.specs.declared.Reply.{Reply}

-- what is lent to be written: labels and their distances, workspace, the two halves of the segment queue, candidate rows
pub record QueryAreas : Type 0 where
  pub labels : List ℕ
  pub label_distances : List Float
  pub work : List ℕ
  pub queue_a : List ℕ
  pub queue_b : List ℕ
  pub candidates : List ℕ

abbrev pub query_areas : List ℕ → List Float → List ℕ → List ℕ → List ℕ → List ℕ → QueryAreas
query_areas l d w a b c = record { labels = l; label_distances = d; work = w; queue_a = a; queue_b = b; candidates = c }

-- how long they are
abbrev pub query_lengths : QueryAreas → Lengths
query_lengths s =
    record {
      labels = length s.labels;
      label_distances = length s.label_distances;
      work = length s.work;
      queue_a = length s.queue_a;
      queue_b = length s.queue_b;
      candidates = length s.candidates;
    }

-- AN OUTCOME: what the call gives back, and the areas as it leaves them
pub record QueryOutcome : Type 0 where
  pub reply : Reply
  pub areas : QueryAreas

abbrev pub reply : (code total stop candidates : ℕ) → Reply
reply code total stop candidates = record { code = code; total = total; stop = stop; candidates = candidates }

-- refused by questions 1 to 6: all areas are as they came
abbrev pub refused : ℕ → QueryAreas → QueryOutcome
refused code s = record { reply = reply code 0 0 0; areas = s }

-- zeros, as many as there were numbers
abbrev pub cleared : List ℕ → List ℕ
cleared l = replicate (length l) 0

-- 8, a queue half had no room: labels, workspace and queue are zero, the candidate rows as they came
abbrev pub overflown : QueryAreas → QueryOutcome
overflown s =
    record {
      reply = reply 8 0 0 0;
      areas =
          query_areas (cleared s.labels) (replicate (length s.label_distances) no_distance) (cleared s.work)
          (cleared s.queue_a) (cleared s.queue_b) s.candidates;
    }

-- candidate rows, three numbers each: total, stop, row
unfoldable pub candidate_words : List (ℕ × ℕ × ℕ) → List ℕ
candidate_words [] = []
candidate_words (c ∷ cs) = c.0 ∷ c.1 ∷ c.2 ∷ candidate_words cs

-- the candidate rows lent, zero past the last candidate
abbrev pub candidate_rows : List (ℕ × ℕ × ℕ) → List ℕ
candidate_rows cs = candidate_words cs ++ replicate (39 - length cs * 3) 0

-- answered: total, stop and how many candidates ("no way": 4,294,967,295, 4,294,967,295, 0); labels; workspace and queue zero;
-- candidate rows, zero past the last
abbrev pub answered : SearchAnswer → QueryAreas → QueryOutcome
answered a s =
    record {
      reply = reply 0 a.total a.stop (length a.candidates);
      areas = query_areas (words_of_all a.labels) (distances_of_all a.labels) (cleared s.work) (cleared s.queue_a) (cleared s.queue_b)
          (candidate_rows a.candidates);
    }

-- the first question answered no decides: of 1 to 6 by the verdict, then of 8
abbrev pub query_settled : ℕ → Bool → SearchAnswer → QueryAreas → QueryOutcome
query_settled (suc code) full a s = refused (suc code) s
query_settled zero true a s = overflown s
query_settled zero false a s = answered a s

-- QUESTION 8: has each round's queue room in a half, four numbers a segment?
abbrev pub queue_full : SearchAnswer → QueryAreas → Bool
queue_full a s = overflows (length s.queue_a / 4) a.queued
