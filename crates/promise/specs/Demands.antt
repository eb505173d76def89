-- THE THREE DEMANDS, of the exported calls `query` and `run_tbr`, on lent slices; then the chain, in the order in which a board calls: build, ask,
-- answer. Each field is a claim over all slices; `the_demands` (proofs/Chain) inhabits the record, `whole_k` (proofs/ChainInstance) shows that the
-- chain's hypotheses can be met. The contracts of the calls (`query_call`, `frequency_call`, `lines_call`, `departures_call`, `transfers_call`) equate what
-- they answer and write with the outcomes named here. Definitions only.
use Rattle.std.specs.Prelude.{◌≡◌, false}
use Rattle.tally.specs.Laws.{TallyLaws}
use Rattle.frequency_call.specs.Told.{FreqLaws}
use Rattle.model.specs.Search.{SearchAnswer, use_arc_flags, flags_in_use, run_tbr, query}
use Rattle.model.specs.Promise.{scheduled, effective, LinesBuilt, TransfersBuilt, CalmConditions, PlainConditions, PlainDay, SteadyConditions}
use Rattle.model.specs.Promise.{SteadyDay}
use Rattle.query_types.specs.declared.Lengths.{Lengths}
use Rattle.query_input.specs.Lent.{Lent, tables_of, query_of}
use Rattle.query_door.specs.Door.{query_verdict}
use Rattle.query_reply.specs.Outcome.{QueryAreas, query_lengths}
use Rattle.query_call.specs.Call.{run_tbr_outcome, query_outcome}
use Rattle.promise.specs.Claims.{DoorMet, NeverFull, LawsMet, PromiseMet, PromiseKept, TransfersUnread, ScreenMet}
use Rattle.promise.specs.Chain.{Chain, TransferChain, callers_list, DoorElse, TransfersPass}

-- the answers that the definitions give to what is lent: the query's, and the Rust's
abbrev pub lent_answer : Lent → SearchAnswer
lent_answer x = query (tables_of x) (query_of x)

abbrev pub rust_answer_of : Lent → SearchAnswer
rust_answer_of x = run_tbr (tables_of x) (query_of x)

pub record Demands : Type 0 where
  -- DEMAND 1, on any slices
  pub demand1_query : (x : Lent) → DoorMet x (query_outcome x) (lent_answer x)
  pub demand1_rust : (x : Lent) → DoorMet x (run_tbr_outcome x) (rust_answer_of x)
  pub query_never_full : (x : Lent) → NeverFull x (query_outcome x) (lent_answer x) (flags_in_use (tables_of x) (query_of x))
  pub rust_never_full : (x : Lent) → NeverFull x (run_tbr_outcome x) (rust_answer_of x) (use_arc_flags (tables_of x) (query_of x))
  -- the exported calls are made for a screen: question 15 comes first, and all that is said here of a call's outcome is said of it for a valid one
  pub screen_query : (x : Lent) → ScreenMet x (query_outcome x) (lent_answer x)
  pub screen_rust : (x : Lent) → ScreenMet x (run_tbr_outcome x) (rust_answer_of x)
  -- and each adds to the box's tally, as the contract of every exported call has it
  pub tally : TallyLaws
  -- DEMAND 2, on any slices
  pub demand2_query : (x : Lent) → LawsMet x (query_outcome x) (lent_answer x) (flags_in_use (tables_of x) (query_of x))
  pub demand2_rust : (x : Lent) → LawsMet x (run_tbr_outcome x) (rust_answer_of x) (use_arc_flags (tables_of x) (query_of x))
  -- frequency boarding, of every input of its call: the earliest boarding by GTFS, with its waiting (document 02, T-02), or none
  pub waiting : FreqLaws
  -- DEMAND 3: on a plain day, by scheduled times; of `run_tbr` wherever the Rust's `use_arc_flags` is false
  pub demand3_query : (x : Lent) → PlainDay (tables_of x) (query_of x) → PromiseMet x (query_outcome x) (lent_answer x) (scheduled (tables_of x))
  pub demand3_rust_call : (x : Lent) → PlainDay (tables_of x) (query_of x) → use_arc_flags (tables_of x) (query_of x) ≡ false
      → PromiseMet x (run_tbr_outcome x) (rust_answer_of x) (scheduled (tables_of x))
  -- the same on a steady day, by effective times
  pub steady_query : (x : Lent) → SteadyDay (tables_of x) (query_of x)
      → PromiseMet x (query_outcome x) (lent_answer x) (effective (tables_of x) (query_of x))
  pub steady_rust_call : (x : Lent) → SteadyDay (tables_of x) (query_of x) → use_arc_flags (tables_of x) (query_of x) ≡ false
      → PromiseMet x (run_tbr_outcome x) (rust_answer_of x) (effective (tables_of x) (query_of x))
  -- THE CHAIN: what the building calls left is as a day asks, of the query's own timetable and from the caller's list
  pub chain_tables : (x : Lent) (k : Chain x) → LinesBuilt (tables_of x) (callers_list x k)
  pub chain_transfers : (x : Lent) (k : Chain x) → TransferChain x k
      → TransfersBuilt (tables_of x) (callers_list x k) x.n.settings.transfer_time
  -- the query's door has nothing left to ask of it
  pub chain_pass : (x : Lent) (k : Chain x) → TransferChain x k → TransfersPass x k.rest
  pub chain_door : (x : Lent) (k : Chain x) (l : Lengths) → TransfersPass x k.rest → DoorElse x l → query_verdict x l ≡ 0
  -- so a timetable and a query with a plain day's other conditions are a plain day, and the query answers and keeps demand 3
  pub chain_plain : (x : Lent) (k : Chain x) → TransferChain x k → CalmConditions (tables_of x) (query_of x) → PlainConditions (tables_of x) (query_of x)
      → PlainDay (tables_of x) (query_of x)
  pub demand3_chain : (x : Lent) (s : QueryAreas) (k : Chain x) → TransferChain x k → DoorElse x (query_lengths s)
      → CalmConditions (tables_of x) (query_of x) → PlainConditions (tables_of x) (query_of x)
      → PromiseKept x s (query_outcome x) (lent_answer x) (scheduled (tables_of x))
  -- with arc flags off no transfer is read: transfers built with another transfer time, or none, change nothing
  pub other_transfers : (x : Lent) → use_arc_flags (tables_of x) (query_of x) ≡ false → TransfersUnread x query_outcome
  pub other_transfers_rust : (x : Lent) → use_arc_flags (tables_of x) (query_of x) ≡ false → TransfersUnread x run_tbr_outcome
  -- on a steady day the transfers call is not needed: any transfers will do that the door admits, or none
  pub chain_steady : (x : Lent) → Chain x → CalmConditions (tables_of x) (query_of x) → SteadyConditions (tables_of x) (query_of x)
      → SteadyDay (tables_of x) (query_of x)
  pub steady_chain : (x : Lent) (s : QueryAreas) (k : Chain x) → TransfersPass x k.rest → DoorElse x (query_lengths s)
      → CalmConditions (tables_of x) (query_of x) → SteadyConditions (tables_of x) (query_of x)
      → PromiseKept x s (query_outcome x) (lent_answer x) (effective (tables_of x) (query_of x))
