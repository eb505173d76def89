-- THE THREE DEMANDS, of the two calls.
use Prim.Native.Nat.{ℕ, zero, suc, ◌/◌, ◌≤◌, ◌<◌}
use mathlib.Core.Path.{◌≡◌, refl, sym, ap, subst, ◌∙◌}
use mathlib.Core.Logic.{◌⊎◌, inl, inr, ⊎_elim}
use mathlib.Core.Bool.{Bool, true, false, ◌||◌}
use mathlib.Core.List.Memᴰ
use mathlib.Core.List.{List, [], ◌∷◌, Memᴰ}
use native.Mathlib.Omega.{arith}
use lib.ListN.{length}
use lib.Dec.{ltb}
use borrow.Author.Tests.{ltb-true, lt-ltb, le-ltb}
use Rattle.sorts.specs.Orders.{All, nil, cons}
use Rattle.model.specs.Search.{SearchAnswer, use_arc_flags, flags_in_use, search_answer, run_tbr as the_rust, query as the_promise, overflows}
use Rattle.model.specs.Tables.{Tables, Query}
use Rattle.model.specs.Door.{Door}
use Rattle.joined.specs.Joined.{Joined, JoinedByDeparture}
use Rattle.model.specs.Promise.{TripTimes, scheduled, effective, PlainDay, SteadyDay, Demand3, Pareto}
use Rattle.answer_laws.specs.Lawful.{Lawful}
use Rattle.answer_laws.proofs.Answers.{run_tbr_lawful, query_lawful}
use Rattle.answer_laws.proofs.Calls.{unflagged_zeros}
use Rattle.answer_laws.proofs.Queue.{queue_never_fills}
use Rattle.joined.proofs.Joined.{run_tbr_joined, query_joined, run_tbr_joined_departures, query_joined_departures}
use Rattle.model.proofs.Demand3.{steady, steady_rust, steady_pareto, steady_pareto_rust, demand3, demand3_rust, pareto, pareto_rust}
use Rattle.query_input.specs.Lent.{Lent, tables_of, query_of}
use Rattle.query_door.specs.Door.{query_verdict}
use Rattle.query_door.proofs.Yes.{door}
use Rattle.query_reply.specs.Outcome.{QueryAreas, QueryOutcome, query_lengths, overflown, answered, query_settled, queue_full}
use Rattle.query_call.specs.Call.{run_tbr_outcome, query_outcome}
use Rattle.promise.specs.Claims.{DoorMet, NeverFull, LawsMet, PromiseMet, PromiseKept}
use Rattle.promise.specs.Demands.{lent_answer, rust_answer_of}

-- question 8, as a fact
over_at : (room : ℕ) (l : List ℕ) → overflows room l ≡ true → (m : ℕ) × Memᴰ m l × (room < m)
unfolding overflows
over_at room [] e = let z : ◌≡◌ {A = ℕ} 0 1 = cc in absurd (omega arith)
over_at room (m ∷ l) e = go (ltb room m) refl e (over_at room l)
  where
    go : (b : Bool) → ltb room m ≡ b → (b || overflows room l) ≡ true → (overflows room l ≡ true → (k : ℕ) × Memᴰ k l × (room < k))
        → (k : ℕ) × Memᴰ k (m ∷ l) × (room < k)
    go true f h next = (m, Memᴰ.head refl, ltb-true room m f)
    go false f h next = let k = next h in (k.0, Memᴰ.tail k.1, k.2)

over_by : (room : ℕ) (l : List ℕ) (m : ℕ) → Memᴰ m l → room < m → overflows room l ≡ true
unfolding overflows
over_by room [] m i h = absurd (Memᴰ.not-nil i)
over_by room (k ∷ l) m i h =
    ⊎_elim
    (λ (e : m ≡ k). ap (λ (b : Bool). b || overflows room l) (lt-ltb room k (omega arith)))
    (λ j. go (ltb room k) (over_by room l m j h))
    (Memᴰ.cases_cons i)
  where
    go : (b : Bool) → overflows room l ≡ true → (b || overflows room l) ≡ true
    go true e = refl
    go false e = e

over_none : (room : ℕ) (l : List ℕ) → ((m : ℕ) → Memᴰ m l → m ≤ room) → overflows room l ≡ false
unfolding overflows
over_none room [] h = refl
over_none room (k ∷ l) h =
    ap (λ (b : Bool). b || overflows room l) (le-ltb room k (h k (Memᴰ.head refl))) ∙ over_none room l (λ m i. h m (Memᴰ.tail i))

zeros_fit : (room : ℕ) {l : List ℕ} → All (λ n. n ≡ 0) l → (m : ℕ) → Memᴰ m l → m ≤ room
zeros_fit room nil m i = absurd (Memᴰ.not-nil i)
zeros_fit room (cons e es) m i = ⊎_elim (λ (q : m ≡ _). omega (arith, q, e)) (λ j. zeros_fit room es m j) (Memᴰ.cases_cons i)

-- A CALL whose outcome is settled by the verdict and question 8
module _ (x : Lent) (o : QueryAreas → QueryOutcome) (a : SearchAnswer) (is : (s : QueryAreas) → o s ≡ query_settled (query_verdict x (query_lengths s)) (queue_full a s) a s) where
  by_verdict : (s : QueryAreas) (v : ℕ) → query_verdict x (query_lengths s) ≡ v → o s ≡ query_settled v (queue_full a s) a s
  by_verdict s v e = is s ∙ ap (λ (v : ℕ). query_settled v (queue_full a s) a s) e

  by_queue : (s : QueryAreas) (b : Bool) → query_verdict x (query_lengths s) ≡ 0 → queue_full a s ≡ b → o s ≡ query_settled 0 b a s
  by_queue s b e f = by_verdict s 0 e ∙ ap (λ (b : Bool). query_settled 0 b a s) f

  only : (s : QueryAreas) → (o s).reply.code ≡ 0 → (query_verdict x (query_lengths s) ≡ 0) × (o s ≡ answered a s)
  only s z = go (query_verdict x (query_lengths s)) refl (queue_full a s) refl
    where
      go : (v : ℕ) → query_verdict x (query_lengths s) ≡ v → (b : Bool) → queue_full a s ≡ b → (query_verdict x (query_lengths s) ≡ 0) × (o s ≡ answered a s)
      go zero e false f = (e, by_queue s false e f)
      go zero e true f = absurd (omega (arith, z, ap (λ (y : QueryOutcome). y.reply.code) (by_queue s true e f)))
      go (suc k) e b f = absurd (omega (arith, z, ap (λ (y : QueryOutcome). y.reply.code) (by_verdict s (suc k) e)))

  demand1 : DoorMet x o a
  demand1 =
      record {
        refused_by_first_no = λ s k e. by_verdict s (suc k) e;
        full = λ s e m i h. by_queue s true e (over_by (length s.queue_a / 4) a.queued m i h);
        fits = λ s e h. by_queue s false e (over_none (length s.queue_a / 4) a.queued h);
        answered_or_full = λ s e. either s e (queue_full a s) refl;
        only_answers = only;
      }
    where
      either : (s : QueryAreas) → query_verdict x (query_lengths s) ≡ 0 → (b : Bool) → queue_full a s ≡ b
          → (o s ≡ answered a s) ⊎ ((o s ≡ overflown s) × (m : ℕ) × Memᴰ m a.queued × (length s.queue_a / 4 < m))
      either s e false f = inl (by_queue s false e f)
      either s e true f = let k = over_at (length s.queue_a / 4) a.queued f in inr (by_queue s true e f, k.0, k.1, k.2)

module _ (x : Lent) where
  abbrev T : Tables
  T = tables_of x

  abbrev Q : Query
  Q = query_of x

  -- DEMAND 1
  pub demand1_query : DoorMet x (query_outcome x) (lent_answer x)
  unfolding query_outcome
  demand1_query = demand1 x (query_outcome x) (lent_answer x) (λ s. refl)

  pub demand1_rust : DoorMet x (run_tbr_outcome x) (rust_answer_of x)
  unfolding run_tbr_outcome
  demand1_rust = demand1 x (run_tbr_outcome x) (rust_answer_of x) (λ s. refl)

  -- question 8 of a search in either mode
  never_full : (o : QueryAreas → QueryOutcome) (flagged : Bool) → DoorMet x o (search_answer T Q flagged) → NeverFull x o (search_answer T Q flagged) flagged
  never_full o flagged m =
      record {
        unflagged = λ s e f. m.fits s e (zeros_fit (length s.queue_a / 4) (subst (λ (b : Bool). All (λ n. n ≡ 0) (search_answer T Q b).queued) (sym f) (unflagged_zeros T Q)));
        no_frequency = λ s e w h. m.fits s e (λ n i. omega (arith, queue_never_fills T Q w (door x (query_lengths s) e) flagged n i));
      }

  pub query_never_full : NeverFull x (query_outcome x) (lent_answer x) (flags_in_use T Q)
  unfolding the_promise
  query_never_full = never_full (query_outcome x) (flags_in_use T Q) demand1_query

  pub rust_never_full : NeverFull x (run_tbr_outcome x) (rust_answer_of x) (use_arc_flags T Q)
  unfolding the_rust
  rust_never_full = never_full (run_tbr_outcome x) (use_arc_flags T Q) demand1_rust

  -- DEMAND 2
  module _ (o : QueryAreas → QueryOutcome) (a : SearchAnswer) (m : DoorMet x o a) where
    -- with code 0 the questions were answered yes
    passed : (s : QueryAreas) → (o s).reply.code ≡ 0 → Door T Q
    passed s z = door x (query_lengths s) (m.only_answers s z).0

    laws : (in_use : Bool) → (Door T Q → Lawful T Q a) → (Door T Q → JoinedByDeparture T Q a.labels) → (Door T Q → in_use ≡ false → Joined T Q a.labels) → LawsMet x o a in_use
    laws in_use l j k =
        record {
          lawful = λ s z. (l (passed s z), (m.only_answers s z).1);
          joined = λ s z. j (passed s z);
          in_time = λ s z f. k (passed s z) f;
        }

    -- DEMAND 3, by times W, where nothing fills the queue
    keeps : (W : TripTimes) → ((s : QueryAreas) → query_verdict x (query_lengths s) ≡ 0 → o s ≡ answered a s) → (Door T Q → Demand3 T Q W a) → (Door T Q → Pareto T Q W a) → PromiseMet x o a W
    keeps W h d p =
        record { answers = h; demand3 = λ s z. (d (passed s z), (m.only_answers s z).1); pareto = λ s z. p (passed s z) }

  pub demand2_query : LawsMet x (query_outcome x) (lent_answer x) (flags_in_use T Q)
  demand2_query = laws (query_outcome x) (lent_answer x) demand1_query (flags_in_use T Q) (query_lawful T Q) (query_joined_departures T Q) (query_joined T Q)

  pub demand2_rust : LawsMet x (run_tbr_outcome x) (rust_answer_of x) (use_arc_flags T Q)
  demand2_rust = laws (run_tbr_outcome x) (rust_answer_of x) demand1_rust (use_arc_flags T Q) (run_tbr_lawful T Q) (run_tbr_joined_departures T Q) (run_tbr_joined T Q)

  -- DEMAND 3: on a plain day, by scheduled times
  pub demand3_query : PlainDay T Q → PromiseMet x (query_outcome x) (lent_answer x) (scheduled T)
  demand3_query P =
      keeps (query_outcome x) (lent_answer x) demand1_query (scheduled T) (λ s e. query_never_full.unflagged s e P.calm.conditions.no_flags)
      (λ D. demand3 T Q D P) (λ D. pareto T Q D P)

  -- `run_tbr`, wherever the Rust's `use_arc_flags` is false
  pub demand3_rust_call : PlainDay T Q → use_arc_flags T Q ≡ false → PromiseMet x (run_tbr_outcome x) (rust_answer_of x) (scheduled T)
  demand3_rust_call P f =
      keeps (run_tbr_outcome x) (rust_answer_of x) demand1_rust (scheduled T) (λ s e. rust_never_full.unflagged s e f)
      (λ D. demand3_rust T Q D P f) (λ D. pareto_rust T Q D P f)

  -- the same on a steady day, by effective times
  pub steady_query : SteadyDay T Q → PromiseMet x (query_outcome x) (lent_answer x) (effective T Q)
  steady_query S =
      keeps (query_outcome x) (lent_answer x) demand1_query (effective T Q) (λ s e. query_never_full.unflagged s e S.calm.conditions.no_flags)
      (λ D. steady T Q D S) (λ D. steady_pareto T Q D S)

  pub steady_rust_call : SteadyDay T Q → use_arc_flags T Q ≡ false → PromiseMet x (run_tbr_outcome x) (rust_answer_of x) (effective T Q)
  steady_rust_call S f =
      keeps (run_tbr_outcome x) (rust_answer_of x) demand1_rust (effective T Q) (λ s e. rust_never_full.unflagged s e f)
      (λ D. steady_rust T Q D S f) (λ D. steady_pareto_rust T Q D S f)

  -- where nothing is left to ask, the promise is kept
  pub kept : (s : QueryAreas) (o : QueryAreas → QueryOutcome) (a : SearchAnswer) (W : TripTimes) → PromiseMet x o a W → query_verdict x (query_lengths s) ≡ 0 → PromiseKept x s o a W
  kept s o a W m e =
      let r = m.answers s e in
      let z : (o s).reply.code ≡ 0 = ap (λ (y : QueryOutcome). y.reply.code) r in
      record { code = z; answer = r; demand3 = (m.demand3 s z).0; pareto = m.pareto s z }
