-- The rounds one after the other: the first, from one to the next, the last. Assumes nothing.
use Prim.Native.Nat.{ℕ, suc, ◌+◌, ◌-◌, ◌/◌, ◌≤◌, ◌<◌}
use mathlib.Core.Path.{◌≡◌, refl, sym, ap, subst, ◌∙◌}
use mathlib.Core.Bool.{Bool, true, false, not, ◌&&◌, ◌||◌}
use mathlib.Core.List.{List}
use native.Mathlib.Omega.{arith}
use native.Mathlib.Numerals.{add-one}
use lib.ListN.{length}
use lib.Dec.{eqb}
use lib.Ieee.{Float}
use Rattle.model.specs.Tables.{Tables, Query, rounds_of}
use Rattle.model.specs.Search.{Arrivals, State, idle, final, overflows}
use Rattle.model.proofs.Base.{no_both, or-false}
use Rattle.search_state.specs.View.{Memory, queue_of}
use Rattle.search_state.proofs.Part.{part_length}
use Rattle.search_state.proofs.Queue.{queue_length}
use Rattle.query_input.specs.Lent.{Lent, tables_of, query_of, delay_rows, stop_rows}
use Rattle.query_input.proofs.Laws.{door_of}
use Rattle.ride_step.specs.Laid.{Rides, Laid}
use Rattle.rounds.specs.Round.{state_at, idle_head, read, filled, Fed, Between, Holds, Reached, BeforeRound, Round, Running}
use Rattle.rounds.specs.Rounds.{Started, Ended}
use Rattle.rounds.proofs.States.{overflow_stays, state_ran, onward_start, onward_next, onward_idle, onward_end}
use Rattle.query_types.specs.Slices.{Slices, slices}
use Rattle.query_types.specs.declared.Context.{Context}

-- THE HALVES OF THE QUEUE
halves_of : (even : Bool) (qa qb : List ℕ) (k : ℕ) → length qa ≡ k → length qb ≡ k → length (read even qa qb) ≡ length (filled even qa qb)
halves_of true qa qb k e f = e ∙ sym f
halves_of false qa qb k e f = f ∙ sym e

read_size : (even : Bool) (qa qb : List ℕ) (k : ℕ) → length qa ≡ k → length qb ≡ k → length (read even qa qb) ≡ k
read_size true qa qb k e f = e
read_size false qa qb k e f = f

turned_read : (even : Bool) (qa qb : List ℕ) → filled even qa qb ≡ read (not even) qa qb
turned_read true qa qb = refl
turned_read false qa qb = refl

or_right : (a b : Bool) → (a || b) ≡ true → a ≡ false → b ≡ true
or_right true b e f = absurd (no_both refl f)
or_right false b e f = e

module _ {ctx : Context} {sl : Slices} {distances : List Float} {r : ℕ} {a : Memory}
    (qa qb : List ℕ) (even : Bool) where
  -- an even round reads the first and fills the second
  pub even_open : even ≡ true → BeforeRound ctx sl distances r a (read even qa qb) (length (filled even qa qb))
      → BeforeRound ctx sl distances r a qa (length qb)
  even_open e o = subst (λ (x : Bool). BeforeRound ctx sl distances r a (read x qa qb) (length (filled x qa qb))) e o

  pub odd_open : even ≡ false → BeforeRound ctx sl distances r a (read even qa qb) (length (filled even qa qb))
      → BeforeRound ctx sl distances r a qb (length qa)
  odd_open e o = subst (λ (x : Bool). BeforeRound ctx sl distances r a (read x qa qb) (length (filled x qa qb))) e o

  pub even_close : {b : Memory} (qa' qb' : List ℕ) → even ≡ true → Round ctx sl distances r a b qa qb qb'
      → Round ctx sl distances r a b (read even qa qb) (filled even qa qb) (filled even qa' qb')
  even_close {b} qa' qb' e o = subst (λ (x : Bool). Round ctx sl distances r a b (read x qa qb) (filled x qa qb) (filled x qa' qb')) (sym e) o

  pub odd_close : {b : Memory} (qa' qb' : List ℕ) → even ≡ false → Round ctx sl distances r a b qb qa qa'
      → Round ctx sl distances r a b (read even qa qb) (filled even qa qb) (filled even qa' qb')
  odd_close {b} qa' qb' e o = subst (λ (x : Bool). Round ctx sl distances r a b (read x qa qb) (filled x qa qb) (filled x qa' qb')) (sym e) o

-- nothing left to do in memory: nothing left in the model
idle_is : {ctx : Context} {sl : Slices} {T : Tables} {Q : Query} {r : ℕ} {a : Memory} {q : List ℕ}
    → Between ctx sl a → Holds ctx sl T Q r a q
    → idle T Q ctx.flagged (state_at T Q ctx.flagged r).arrivals ≡ idle_head ctx.flagged a.head
unfolding idle
idle_is {ctx} {sl} {T} {Q} {r} {a} {q} B H =
    ap (idle T Q ctx.flagged) H.view
    ∙ ap (λ (k : ℕ). eqb k 0 && (not ctx.flagged || eqb (length (queue_of q a.head.queued)) 0))
    (part_length a.work ctx.lay.other a.head.count (omega (arith, B.sized.sections.words, B.sized.sections.other_fits, H.few)))
    ∙ ap (λ (k : ℕ). eqb a.head.count 0 && (not ctx.flagged || eqb k 0)) (queue_length q a.head.queued)

-- FROM ONE ROUND TO THE NEXT
module _ {ctx : Context} {sl : Slices} {distances : List Float} {T : Tables} {Q : Query} {limit r : ℕ} {even : Bool} {size : ℕ} {a : Memory}
    (qa qb : List ℕ) (F : Fed ctx sl distances T Q)
    (R : Running ctx sl T Q limit r even size a qa qb)
    (go : (a.head.full || idle_head ctx.flagged a.head) ≡ false) where
  holds_now : Holds ctx sl T Q r a (read even qa qb)
  holds_now = R.reached.on (or-false a.head.full (idle_head ctx.flagged a.head) go).0

  pub loop_open : r < limit → limit ≤ 12 → BeforeRound ctx sl distances r a (read even qa qb) (length (filled even qa qb))
  loop_open h l =
      record {
        between = R.between;
        T = T;
        Q = Q;
        fed = F;
        holds = holds_now;
        early = omega (arith, h, l);
        halves = halves_of even qa qb size R.first R.second;
      }

  pub loop_turn : {b : Memory} (qa' qb' : List ℕ) → r < limit → length qa' ≡ length qa → length qb' ≡ length qb
      → Round ctx sl distances r a b (read even qa qb) (filled even qa qb) (filled even qa' qb')
      → Running ctx sl T Q limit (r + 1) (not even) size b qa' qb'
  loop_turn {b} qa' qb' h la lb D =
      subst (λ (k : ℕ). Running ctx sl T Q limit k (not even) size b qa' qb') (sym (add-one r))
      (record {
        between = D.between;
        reached = subst (λ (q : List ℕ). Reached ctx sl T Q (suc r) b q) (turned_read even qa' qb') (D.view T Q F holds_now);
        onward = onward_next T Q ctx.flagged limit r (idle_is R.between holds_now ∙ (or-false a.head.full (idle_head ctx.flagged a.head) go).1) R.onward;
        few = h;
        first = la ∙ R.first;
        second = lb ∙ R.second;
      })

-- THE FIRST ROUND
module _ {x : Lent} {ctx : Context} {a : Memory} {ka kb : ℕ} (S : Started x ctx a ka kb) where
  pub fed_of : (rows stops : List ℕ) → Fed ctx (slices x.t rows stops x.built x.patterns x.transfers) x.distances (tables_of x) (query_of x)
  fed_of rows stops =
      record {
        door = door_of x S.l S.admitted;
        order = rw S.counts_are S.admitted.ordered.edges;
        long = rw S.counts_are (omega (arith, S.admitted.lengthy.distances_is));
        distance = λ e h. refl;
        changes = sym S.change_is;
      }

  pub loop_start : (rows stops qa qb : List ℕ) (limit : ℕ) → rows ≡ delay_rows x.q x.n → stops ≡ stop_rows x.q x.n → limit ≡ rounds_of (query_of x)
      → length qa ≡ ka → length qb ≡ kb
      → Running ctx (slices x.t rows stops x.built x.patterns x.transfers) (tables_of x) (query_of x) limit 0 true (length qa) a qa qb
  unfolding state_at overflows
  loop_start rows stops qa qb limit e f g la lb =
      record {
        between = record {
          laid =
              subst (λ (y : List ℕ). Laid ctx (slices x.t y stops x.built x.patterns x.transfers) a.work) (sym e)
              (subst (λ (y : List ℕ). Laid ctx (slices x.t (delay_rows x.q x.n) y x.built x.patterns x.transfers) a.work) (sym f) S.begun.laid);
          sized = S.begun.sized;
          walks = S.begun.walks;
          written = S.begun.written;
        };
        reached = record {
          on = λ z. record {
            rides =
                subst (λ (y : List ℕ). Rides ctx (slices x.t y stops x.built x.patterns x.transfers) a.work (tables_of x) (query_of x)) (sym e)
                (subst (λ (y : List ℕ). Rides ctx (slices x.t (delay_rows x.q x.n) y x.built x.patterns x.transfers) a.work (tables_of x) (query_of x)) (sym f) S.begun.rides);
            view = S.begun.view qa;
            books = S.begun.books;
            chains = S.begun.chains;
            few = S.begun.few;
            room = omega (arith, S.begun.queued);
            fits = refl;
          };
          over = λ z. absurd (no_both z S.begun.full);
        };
        onward = λ k h. onward_start (tables_of x) (query_of x) ctx.flagged k (h ∙ g);
        few = omega arith;
        first = refl;
        second = lb ∙ sym S.halves ∙ sym la;
      }

-- THE LAST ROUND
module _ (x : Lent) {ctx : Context} {sl : Slices} {distances : List Float} {limit r : ℕ} {even : Bool} {size : ℕ} {a : Memory}
    (qa qb : List ℕ) (F : Fed ctx sl distances (tables_of x) (query_of x))
    (R : Running ctx sl (tables_of x) (query_of x) limit r even size a qa qb) where
  room_is : length (read even qa qb) / 4 ≡ size / 4
  room_is = ap (λ (k : ℕ). k / 4) (read_size even qa qb size R.first R.second)

  ended_by : (a.head.full ≡ false → final (tables_of x) (query_of x) ctx.flagged ≡ state_at (tables_of x) (query_of x) ctx.flagged r) → Ended x ctx.flagged (size / 4) ctx.lay a
  ended_by h =
      record {
        full = full a.head.full refl;
        labels = λ f. sym (ap (λ (s : State). s.arrivals.labels) (h f) ∙ ap (λ (z : Arrivals). z.labels) (R.reached.on f).view);
        earliest = λ f. sym (ap (λ (s : State). s.arrivals.earliest) (h f) ∙ ap (λ (z : Arrivals). z.earliest) (R.reached.on f).view);
        sized = R.between.sized;
        written = R.between.written;
      }
    where
      full : (f : Bool) → a.head.full ≡ f → f ≡ overflows (size / 4) (final (tables_of x) (query_of x) ctx.flagged).boardings.queued
      full true e =
          let q : r + (limit - r) ≡ limit = omega (arith, R.few) in
          sym (ap (λ (s : State). overflows (size / 4) s.boardings.queued) (sym (R.onward (limit - r) q))
          ∙ overflow_stays (tables_of x) (query_of x) F.door ctx.flagged (size / 4) (limit - r) r (state_at (tables_of x) (query_of x) ctx.flagged r) (state_ran (tables_of x) (query_of x) F.door ctx.flagged r)
          (ap (λ (k : ℕ). overflows k (state_at (tables_of x) (query_of x) ctx.flagged r).boardings.queued) (sym room_is) ∙ R.reached.over e))
      full false e =
          sym (ap (λ (s : State). overflows (size / 4) s.boardings.queued) (h e) ∙ ap (λ (k : ℕ). overflows k (state_at (tables_of x) (query_of x) ctx.flagged r).boardings.queued) (sym room_is)
          ∙ (R.reached.on e).fits)

  -- after as many rounds as there are
  pub ended_last : limit ≤ r → Ended x ctx.flagged (size / 4) ctx.lay a
  ended_last h = ended_by (λ f. onward_end (tables_of x) (query_of x) ctx.flagged limit r R.few h R.onward)

  -- after the one after which nothing is left, or a segment did not fit
  pub ended_early : (a.head.full || idle_head ctx.flagged a.head) ≡ true → Ended x ctx.flagged (size / 4) ctx.lay a
  ended_early e =
      ended_by (λ f. onward_idle (tables_of x) (query_of x) ctx.flagged limit r (idle_is R.between (R.reached.on f) ∙ or_right a.head.full (idle_head ctx.flagged a.head) e f) R.few R.onward)
