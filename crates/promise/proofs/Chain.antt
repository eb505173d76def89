-- THE CHAIN: after the building calls the tables that the query is lent are as built, of its own timetable, and pass its door; so on a day with
-- the other conditions demand 3 holds of the call's answer.
use Prim.Native.Nat.{ℕ, ◌<◌}
use mathlib.Core.Path.{◌≡◌, refl, sym, subst}
use mathlib.Core.Bool.{false}
use mathlib.Core.Logic.{⊎_elim}
use mathlib.Core.List.{List, [], ◌∷◌, Memᴰ}
use Rattle.departures.specs.declared.DepartureRow.{DepartureRow}
use Rattle.sorts.specs.Sort.{sort_by}
use Rattle.sorts.specs.Orders.{All, nil, cons}
use Rattle.sorts.proofs.Orders.{sort-all}
use Rattle.departures.specs.Departures.{row_departure}
use Rattle.model.specs.Tables.{Tables, stops, trips, no_pickup}
use Rattle.model.proofs.Lists.{sort_has}
use Rattle.model.specs.Promise.{scheduled, effective, LinesBuilt, CalmConditions, CalmDay, PlainConditions, PlainDay, SteadyConditions, SteadyDay}
use Rattle.query_input.specs.Lent.{Lent, tables_of, query_of}
use Rattle.query_reply.specs.Outcome.{QueryAreas, query_lengths}
use Rattle.query_call.specs.Call.{query_outcome}
use Rattle.promise.specs.Claims.{PromiseKept}
use Rattle.promise.specs.Chain.{Chain, TransferChain, callers_list, DoorElse, TransfersPass}
use Rattle.promise.specs.Demands.{lent_answer, Demands}
use Rattle.tally.proofs.Laws.{the_tally}
use Rattle.frequency_call.proofs.Told.{freq_told}
use Rattle.promise.proofs.Screens.{screen_query, screen_rust}
use Rattle.promise.proofs.Unflagged.{other_transfers, other_transfers_rust}
use Rattle.promise.proofs.Building.{chain_tables}
use Rattle.promise.proofs.Transferred.{chain_transfers}
use Rattle.promise.proofs.Doors.{chain_door}
use Rattle.promise.proofs.Passing.{chain_pass}
use Rattle.promise.proofs.Demands.{demand1_query, demand1_rust, query_never_full, rust_never_full, demand2_query, demand2_rust, demand3_query, demand3_rust_call, steady_query, steady_rust_call, kept}

module _ (x : Lent) (k : Chain x) (c : CalmConditions (tables_of x) (query_of x)) where
  abbrev calm : CalmDay (tables_of x) (query_of x)
  calm = record { listed = callers_list x k; built = chain_tables x k; conditions = c }

  -- with the other conditions of a plain day, after the transfers call too
  pub chain_plain : TransferChain x k → PlainConditions (tables_of x) (query_of x) → PlainDay (tables_of x) (query_of x)
  chain_plain m e = record { calm = calm; transfers = chain_transfers x k m; conditions = e }

  pub demand3_chain : (s : QueryAreas) → TransferChain x k → DoorElse x (query_lengths s) → PlainConditions (tables_of x) (query_of x)
      → PromiseKept x s (query_outcome x) (lent_answer x) (scheduled (tables_of x))
  demand3_chain s m d e =
      kept x s (query_outcome x) (lent_answer x) (scheduled (tables_of x)) (demand3_query x (chain_plain m e)) (chain_door x k (query_lengths s) (chain_pass x k m) d)

  -- with those of a steady one, after the lines call and the departure sorting call
  pub chain_steady : SteadyConditions (tables_of x) (query_of x) → SteadyDay (tables_of x) (query_of x)
  chain_steady e = record { calm = calm; conditions = e }

  pub steady_chain : (s : QueryAreas) → TransfersPass x k.rest → DoorElse x (query_lengths s) → SteadyConditions (tables_of x) (query_of x)
      → PromiseKept x s (query_outcome x) (lent_answer x) (effective (tables_of x) (query_of x))
  steady_chain s p d e =
      kept x s (query_outcome x) (lent_answer x) (effective (tables_of x) (query_of x)) (steady_query x (chain_steady e)) (chain_door x k (query_lengths s) p d)

-- THE DEMANDS
pub the_demands : Demands
the_demands =
    record {
      demand1_query = demand1_query;
      demand1_rust = demand1_rust;
      query_never_full = query_never_full;
      rust_never_full = rust_never_full;
      screen_query = screen_query;
      screen_rust = screen_rust;
      tally = the_tally;
      demand2_query = demand2_query;
      demand2_rust = demand2_rust;
      waiting = freq_told;
      demand3_query = demand3_query;
      demand3_rust_call = demand3_rust_call;
      steady_query = steady_query;
      steady_rust_call = steady_rust_call;
      chain_tables = chain_tables;
      chain_transfers = chain_transfers;
      chain_pass = chain_pass;
      chain_door = chain_door;
      chain_plain = λ x k m c e. chain_plain x k c m e;
      demand3_chain = λ x s k m d c e. demand3_chain x k c s m d e;
      other_transfers = other_transfers;
      other_transfers_rust = other_transfers_rust;
      chain_steady = λ x k c e. chain_steady x k c e;
      steady_chain = λ x s k p d c e. steady_chain x k c s p d e;
    }

-- EVENLY LISTED, of the caller's list: then the tables are, since sorting loses and adds no row
all_member : {A : Type 0} {P : A → Type 0} (l : List A) (a : A) → All P l → Memᴰ a l → P a
all_member [] a nil i = absurd (mathlib.Core.List.Memᴰ.not-nil i)
all_member {A} {P} (y ∷ l) a (cons p ps) i = ⊎_elim (λ (e : a ≡ y). subst P (sym e) p) (λ j. all_member l a ps j) (mathlib.Core.List.Memᴰ.cases_cons i)

members : {A : Type 0} (l m : List A) → ((a : A) → Memᴰ a l → Memᴰ a m) → All (λ a. Memᴰ a m) l
members [] m h = nil
members (y ∷ l) m h = cons (h y (mathlib.Core.List.Memᴰ.head refl)) (members l m (λ a i. h a (mathlib.Core.List.Memᴰ.tail i)))

sort_from : {A : Type 0} (key : A → ℕ) (l : List A) (a : A) → Memᴰ a (sort_by key l) → Memᴰ a l
sort_from key l a i = all_member (sort_by key l) a (sort-all key l (members l l (λ a i. i))) i

pub evenly_when : (T : Tables) (listed : ℕ → List DepartureRow) → LinesBuilt T listed
    → ((s t u o : ℕ) → s < stops T → Memᴰ (record { trip = t; offset = o }) (listed s) → u < trips T → T.line_of u ≡ T.line_of t → no_pickup T u o ≡ false
    → Memᴰ (record { trip = u; offset = o }) (listed s))
    → (s t u o : ℕ) → s < stops T → Memᴰ (record { trip = t; offset = o }) (T.departures s) → u < trips T → T.line_of u ≡ T.line_of t → no_pickup T u o ≡ false
    → Memᴰ (record { trip = u; offset = o }) (T.departures s)
evenly_when T listed b h s t u o v i w e f =
    let r : DepartureRow = record { trip = t; offset = o } in
    let q : DepartureRow = record { trip = u; offset = o } in
    let k = row_departure T.timetable in
    let j : Memᴰ r (listed s) = sort_from k (listed s) r (subst (λ (l : List DepartureRow). Memᴰ r l) (b.departures_built s v) i) in
    subst (λ (l : List DepartureRow). Memᴰ q l) (sym (b.departures_built s v)) (sort_has k (listed s) q (h s t u o v j w e f))
