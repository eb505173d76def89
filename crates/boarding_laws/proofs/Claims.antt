-- THE SEARCH IS AS IT WAS (specs/Claims): the search as it was over today's boarding (proofs/Search) is the one over boarding as it was, since the
-- two boardings have the same four numbers (proofs/Boarding).
use mathlib.Core.Path.{◌≡◌, ◌∙◌}
use mathlib.Core.Bool.{Bool}
use Rattle.model.specs.Tables.{Tables, Query}
use Rattle.model.specs.Search.{use_arc_flags, flags_in_use, search_answer, run_tbr, query}
use Rattle.boarding_laws.specs.Boarding.{board_before}
use Rattle.boarding_laws.specs.Search.{search_answer_with, run_tbr_before, query_before}
use Rattle.boarding_laws.specs.Claims.{AsBefore}
use Rattle.boarding_laws.proofs.Boarding.{same_frequency, same_board}
use Rattle.boarding_laws.proofs.Search.{same_search}

same_answer : (T : Tables) (Q : Query) (flagged : Bool) → search_answer T Q flagged ≡ search_answer_with T Q (board_before T Q) flagged
same_answer T Q flagged = same_search T Q flagged ∙ (λ i. search_answer_with T Q (λ adj t o after. same_board T Q adj t o after i) flagged)

same_query : (T : Tables) (Q : Query) → query T Q ≡ query_before T Q
unfolding query query_before
same_query T Q = same_answer T Q (flags_in_use T Q)

same_run_tbr : (T : Tables) (Q : Query) → run_tbr T Q ≡ run_tbr_before T Q
unfolding run_tbr run_tbr_before
same_run_tbr T Q = same_answer T Q (use_arc_flags T Q)

pub as_before : AsBefore
as_before =
    record {
      boarding = same_board;
      frequency = same_frequency;
      query_same = same_query;
      run_tbr_same = same_run_tbr;
    }
