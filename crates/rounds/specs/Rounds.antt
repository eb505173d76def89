-- The rounds of a query over what is lent. Definitions only.
-- Inner: nobody has to believe this.
use Rattle.std.specs.Prelude.{ℕ, ◌*◌, ◌≡◌, Bool, false, length}
use Rattle.model.specs.Search.{final, overflows}
use Rattle.query_types.specs.declared.Lay.{Lay}
use Rattle.search_state.specs.Places.{Sized, earliest_of}
use Rattle.search_state.specs.View.{Memory, labels_of, Written}
use Rattle.query_types.specs.declared.Lengths.{Lengths}
use Rattle.query_input.specs.Lent.{Lent, tables_of, query_of}
use Rattle.query_input.specs.Sane.{Admitted}
use Rattle.search_begin.specs.Begin.{Begun}
use Rattle.query_types.specs.declared.Context.{Context}

-- what the rounds begin from: what is lent is admitted, and memory holds `begin`; both queue halves are as long
pub record Started (x : Lent) (ctx : Context) (a : Memory) (qa qb : ℕ) : Type 0 where
  pub l : Lengths
  pub admitted : Admitted x l
  pub counts_are : ctx.counts ≡ x.n
  pub change_is : ctx.change ≡ (query_of x).change
  pub begun : Begun x ctx a
  pub halves : qa ≡ qb

-- AFTER THE ROUNDS: `full` says question 8 of all rounds' queues; where they fit, labels and earliest arrivals are the model's
pub record Ended (x : Lent) (flagged : Bool) (room : ℕ) (lay : Lay) (b : Memory) : Type 0 where
  pub full : b.head.full ≡ overflows room (final (tables_of x) (query_of x) flagged).boardings.queued
  pub labels : b.head.full ≡ false
      → labels_of b.labels b.label_distances (lay.stops * 13) ≡ (final (tables_of x) (query_of x) flagged).arrivals.labels
  pub earliest : b.head.full ≡ false → earliest_of lay b.work ≡ (final (tables_of x) (query_of x) flagged).arrivals.earliest
  pub sized : Sized lay (length b.work) (length b.labels) (length b.label_distances)
  pub written : Written (lay.stops * 13) b.labels b.label_distances
