-- A loop of steps that board trips: what is done so far and what is left make the whole. Assumes nothing.
use Prim.Native.Nat.{ℕ, ◌/◌, ◌≤◌, ◌<◌}
use mathlib.Core.Path.{◌≡◌, refl, ap, subst, ◌∙◌}
use mathlib.Core.Bool.{true, false}
use mathlib.Core.List.{List}
use native.Mathlib.Omega.{arith}
use lib.ListN.{length}
use Rattle.loops.proofs.Search.{clash}
use Rattle.model.specs.Tables.{Tables, Query}
use Rattle.model.specs.Search.{State}
use Rattle.query_types.specs.declared.Lay.{Lay}
use Rattle.search_state.specs.View.{Memory}
use Rattle.search_state.specs.Step.{Ready}
use Rattle.line_pruning.specs.Books.{Chains}
use Rattle.trip_scan.specs.Scan.{Open}
use Rattle.ride_step.specs.Laid.{Kept}
use Rattle.ride_step.specs.Phase.{Seen}
use Rattle.ride_step.specs.Going.{Rode}
use Rattle.ride_step.proofs.Keep.{kept_refl, kept_then}
use Rattle.search_state.specs.Places.{Falls}
use Rattle.search_state.proofs.Falls.{falls_refl, falls_then}

-- what is left to do from the state reached is the whole from the state at first, and all segments fit so far
pub record Riding (lay : Lay) (stamp : ℕ) (agree : Tables → Query → Type 0) (whole rest : Tables → Query → State → State) (a b : Memory) (q r : List ℕ) : Type 0 where
  pub done : Tables → Query → State → State
  pub seen : (T : Tables) (Q : Query) → agree T Q → (s : State) → Seen lay stamp T Q a q s → Seen lay stamp T Q b r (done T Q s)
  pub left : (T : Tables) (Q : Query) → agree T Q → (s : State) → Seen lay stamp T Q a q s → rest T Q (done T Q s) ≡ whole T Q s
  pub kept : Kept lay a.work b.work
  pub ready : Ready lay stamp b
  pub chains : Chains lay stamp b.work
  pub size : length r ≡ length q
  pub room : Open b.head (length r)
  pub falls : Falls lay a.work b.work

module _ {lay : Lay} {stamp : ℕ} {agree : Tables → Query → Type 0} where
  -- as a loop begins
  pub ride_start : (whole rest : Tables → Query → State → State) (a : Memory) (q : List ℕ) → Ready lay stamp a → Chains lay stamp a.work → Open a.head (length q)
      → ((T : Tables) (Q : Query) → agree T Q → (s : State) → rest T Q s ≡ whole T Q s) → Riding lay stamp agree whole rest a a q q
  ride_start whole rest a q ok ch o e =
      record {
        done = λ T Q s. s;
        seen = λ T Q y s z. z;
        left = λ T Q y s z. e T Q y s;
        kept = kept_refl lay a.work;
        ready = ok;
        chains = ch;
        size = refl;
        room = o;
        falls = falls_refl lay a.work;
      }

  module _ {agree' : Tables → Query → Type 0} {whole rest g : Tables → Query → State → State} {a b c : Memory} {q r s : List ℕ}
      (rest' : Tables → Query → State → State) (p : Riding lay stamp agree whole rest a b q r) (z : Rode lay stamp agree' g b c r s)
      (h : (T : Tables) (Q : Query) → agree T Q → agree' T Q)
      (e : (T : Tables) (Q : Query) → agree T Q → (x : State) → Seen lay stamp T Q b r x → rest' T Q (g T Q x) ≡ rest T Q x) where
    -- a turn after which all fit
    pub ride_turn : c.head.full ≡ false → Riding lay stamp agree whole rest' a c q s
    ride_turn n =
        record {
          done = λ T Q x. g T Q (p.done T Q x);
          seen = λ T Q y x k. z.step.view n T Q (h T Q y) (p.done T Q x) (p.seen T Q y x k);
          left = λ T Q y x k. e T Q y (p.done T Q x) (p.seen T Q y x k) ∙ p.left T Q y x k;
          kept = kept_then p.kept z.step.kept;
          ready = z.step.ready;
          chains = z.step.chains;
          size = z.step.size ∙ p.size;
          room = record { none = n; room = z.step.room };
          falls = falls_then p.falls (z.falls n);
        }

    -- a turn in which one does not fit: what is left queues no fewer
    pub ride_over : c.head.full ≡ true → ((T : Tables) (Q : Query) (x : State) → length x.arrivals.seg_queue ≤ length (rest' T Q x).arrivals.seg_queue)
        → Rode lay stamp agree whole a c q s
    ride_over n grows =
        record {
          step = record {
            view = λ u. absurd (clash n u);
            over = λ u T Q y x k.
                let d = p.done T Q x in
                let seen = p.seen T Q y x k in
                let l = z.step.over u T Q (h T Q y) d seen in
                let m = grows T Q (g T Q d) in
                let w = ap (λ (v : State). length v.arrivals.seg_queue) (e T Q y d seen ∙ p.left T Q y x k) in
                omega (arith, l, m, w, ap (λ (v : ℕ). v / 4) p.size);
            kept = kept_then p.kept z.step.kept;
            ready = z.step.ready;
            chains = z.step.chains;
            size = z.step.size ∙ p.size;
            room = z.step.room;
          };
          falls = λ u. absurd (clash n u);
        }

  -- as it is left: nothing is left to do
  pub ride_end : {rest : Tables → Query → State → State} {a b : Memory} {q r : List ℕ} (whole : Tables → Query → State → State)
      → Riding lay stamp agree whole rest a b q r → ((T : Tables) (Q : Query) → agree T Q → (x : State) → Seen lay stamp T Q b r x → x ≡ rest T Q x)
      → Rode lay stamp agree whole a b q r
  ride_end {rest} {a} {b} {q} {r} whole p e =
      record {
        step = record {
          view = λ u T Q y x k.
              subst (Seen lay stamp T Q b r) (e T Q y (p.done T Q x) (p.seen T Q y x k) ∙ p.left T Q y x k) (p.seen T Q y x k);
          over = λ u. absurd (clash u p.room.none);
          kept = p.kept;
          ready = p.ready;
          chains = p.chains;
          size = p.size;
          room = p.room.room;
        };
        falls = λ u. p.falls;
      }

  -- no step
  pub ride_none : (f : Tables → Query → State → State) (a : Memory) (q : List ℕ) → Ready lay stamp a → Chains lay stamp a.work → Open a.head (length q)
      → ((T : Tables) (Q : Query) → agree T Q → (s : State) → Seen lay stamp T Q a q s → s ≡ f T Q s) → Rode lay stamp agree f a a q q
  ride_none f a q ok ch o e = ride_end f (ride_start f f a q ok ch o (λ T Q y s. refl)) e

  -- the same step, said of what agrees with more, as a function equal on what is seen
  pub ride_as : {agree' : Tables → Query → Type 0} {f : Tables → Query → State → State} {a b : Memory} {q r : List ℕ} (g : Tables → Query → State → State)
      → Rode lay stamp agree' f a b q r → ((T : Tables) (Q : Query) → agree T Q → agree' T Q)
      → ((T : Tables) (Q : Query) → agree T Q → (s : State) → Seen lay stamp T Q a q s → f T Q s ≡ g T Q s) → Rode lay stamp agree g a b q r
  ride_as {f = f} {b = b} {q = q} {r = r} g p h e =
      record {
        step = record {
          view = λ u T Q y s k. subst (Seen lay stamp T Q b r) (e T Q y s k) (p.step.view u T Q (h T Q y) s k);
          over = λ u T Q y s k. subst (λ (v : State). length q / 4 < length v.arrivals.seg_queue) (e T Q y s k) (p.step.over u T Q (h T Q y) s k);
          kept = p.step.kept;
          ready = p.step.ready;
          chains = p.step.chains;
          size = p.step.size;
          room = p.step.room;
        };
        falls = p.falls;
      }
