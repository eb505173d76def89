-- THE OUTCOME OF THE CALLS `run_tbr` and `query`: reply and every lent area at exit, on every input. Definitions only.
use Rattle.model.specs.Search.{run_tbr as the_rust, query as the_promise}
use Rattle.query_input.specs.Lent.{Lent, tables_of, query_of}
use Rattle.query_door.specs.Door.{query_verdict}
use Rattle.query_reply.specs.Outcome.{QueryAreas, query_lengths, QueryOutcome, query_settled, queue_full}

-- THE OUTCOMES. `run_tbr`: the Rust's answer; `query`: the promise's
unfoldable pub run_tbr_outcome : Lent → QueryAreas → QueryOutcome
run_tbr_outcome x s = let a = the_rust (tables_of x) (query_of x) in query_settled (query_verdict x (query_lengths s)) (queue_full a s) a s

unfoldable pub query_outcome : Lent → QueryAreas → QueryOutcome
query_outcome x s = let a = the_promise (tables_of x) (query_of x) in query_settled (query_verdict x (query_lengths s)) (queue_full a s) a s
