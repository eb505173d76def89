-- The transfers of one stop event, one by one. Assumes nothing.
use Prim.Native.Nat.{ℕ, suc, ◌+◌, ◌-◌, ◌≤◌, ◌<◌}
use mathlib.Core.Path.{◌≡◌, refl, sym, ap, ap₂, subst, ◌∙◌}
use mathlib.Core.Bool.{Bool, true, false, not, cond, ◌||◌}
use mathlib.Core.List.{List, [], ◌∷◌}
use Rattle.std.specs.Prelude.{Option, None, Some}
use native.Mathlib.Omega.{arith}
use native.Mathlib.Nat.{le_refl}
use native.Mathlib.Numerals.{add-one}
use lib.ListN.{length, get_or, length-append}
use lib.Dec.{eqb, ltb}
use borrow.Author.Tests.{not-true, not-false}
use Rattle.loops.specs.Count.{tab_from}
use Rattle.frequency.specs.declared.BoardedRun.{BoardedRun}
use Rattle.label.specs.declared.Label.{Label}
use Rattle.label.specs.declared.Label.TheVariants.{Walk}
use Rattle.label.specs.Label.{no_distance}
use Rattle.tables.specs.declared.Counts.{Counts}
use Rattle.tables.specs.Tables.{time_of, trip_of}
use Rattle.tables.specs.Timetable.{Timetable, timetable}
use Rattle.event_transfers.specs.Transfers.{Transfer, transfer_at}
use Rattle.model.specs.Tables.{Tables, Query, stop_at, no_windows}
use Rattle.model.specs.Search.{Segment, Arrivals, at, holds_target, improve, relax, resolve, enqueue, take_transfers}
use Rattle.model.specs.Door.{Door}
use Rattle.answer_laws.proofs.Moves.{pushed}
use Rattle.answer_laws.proofs.Phases.{Found, found, resolve_finds}
use Rattle.model.proofs.Sizes.{boards_soon}
use Rattle.query_types.specs.declared.Lay.{Lay}
use Rattle.search_state.specs.Places.{EgressTable}
use Rattle.search_state.specs.View.{Memory, arrivals_of}
use Rattle.search_state.specs.Step.{QueueStep}
use Rattle.target_resolving.specs.declared.BoardedTrip.{BoardedTrip}
use Rattle.target_resolving.specs.Resolving.{resolved_of}
use Rattle.trip_scan.specs.Scan.{BoardedAt, boarded}
use Rattle.trip_scan.proofs.Alighting.{stop_read}
use Rattle.trip_scan.proofs.Queuing.{queue_as}

-- what an arrival and a queued segment do to the queue
module _ (T : Tables) (Q : Query) where
  pub relax_queue : (stamp s v : ℕ) (l : Label) (a : Arrivals) → (relax T Q stamp s v l a).seg_queue ≡ a.seg_queue
  unfolding relax improve
  relax_queue stamp s v l a = go (ltb v (at a s))
    where
      go : (b : Bool) → (cond b (improve T Q stamp s v l a) a).seg_queue ≡ a.seg_queue
      go true = refl
      go false = refl

  pub enqueue_grows : (t o s shift : ℕ) (a : Arrivals) → length a.seg_queue ≤ length (enqueue T Q t o s shift a).seg_queue
  unfolding enqueue
  enqueue_grows t o s shift a = go (not (no_windows T t) || ltb o (get_or a.seg_reach t 0))
    where
      g : Segment
      g = record { trip = t; offset = o; stop = s; shift = shift }

      go : (b : Bool) → length a.seg_queue ≤ length (elim b as (λ z. Arrivals) [ false ↦ a | true ↦ pushed T Q (no_windows T t) t o s shift a ]).seg_queue
      go true = omega (arith, length-append a.seg_queue (g ∷ []))
      go false = le_refl _

module _ (T : Tables) (Q : Query) (stamp v x : ℕ) where
  -- one transfer, by whether its pattern holds a target and by what it resolves to
  abbrev took : Bool → Option (ℕ × BoardedRun) → Transfer → Arrivals → Arrivals
  took false r e a = a
  took true None e a = a
  took true (Some b) e a =
      enqueue T Q b.0 e.offset (stop_at T b.0 e.offset) b.1.time_shift_s
      (relax T Q stamp (stop_at T b.0 e.offset) b.1.departure (Walk b.1.departure x (stop_at T b.0 e.offset) e.time no_distance (stamp - 1)) a)

  take_one : (e : Transfer) (es : List Transfer) (a : Arrivals)
      → take_transfers T Q stamp v x (e ∷ es) a ≡ take_transfers T Q stamp v x es (took (holds_target T Q e.pattern) (resolve T Q e (v + e.time) a.best) e a)
  unfolding take_transfers
  take_one e es a = go (holds_target T Q e.pattern) (resolve T Q e (v + e.time) a.best)
    where
      go : (h : Bool) (r : Option (ℕ × BoardedRun))
          → elim h as (λ z. Arrivals) [
            | false ↦ take_transfers T Q stamp v x es a
            | true ↦ elim r as (λ z. Arrivals) [ None ↦ take_transfers T Q stamp v x es a | Some b ↦ take_transfers T Q stamp v x es (took true (Some b) e a) ]
          ] ≡ take_transfers T Q stamp v x es (took h r e a)
      go false r = refl
      go true None = refl
      go true (Some b) = refl

  take_end : (a : Arrivals) → take_transfers T Q stamp v x [] a ≡ a
  unfolding take_transfers
  take_end a = refl

  took_grows : (h : Bool) (r : Option (ℕ × BoardedRun)) (e : Transfer) (a : Arrivals) → length a.seg_queue ≤ length (took h r e a).seg_queue
  took_grows false r e a = le_refl _
  took_grows true None e a = le_refl _
  took_grows true (Some b) e a =
      let s = stop_at T b.0 e.offset in
      let how = Walk b.1.departure x s e.time no_distance (stamp - 1) in
      omega (arith, enqueue_grows T Q b.0 e.offset s b.1.time_shift_s (relax T Q stamp s b.1.departure how a), ap length (relax_queue T Q stamp s b.1.departure how a))

  pub take_grows : (es : List Transfer) (a : Arrivals) → length a.seg_queue ≤ length (take_transfers T Q stamp v x es a).seg_queue
  take_grows [] a = rw (take_end a) (le_refl _)
  take_grows (e ∷ es) a =
      let b = took (holds_target T Q e.pattern) (resolve T Q e (v + e.time) a.best) e a in
      rw (take_one e es a) (omega (arith, took_grows (holds_target T Q e.pattern) (resolve T Q e (v + e.time) a.best) e a, take_grows es b))

  -- one after the other
  pub take_cons : (e : Transfer) (es : List Transfer) (a : Arrivals)
      → take_transfers T Q stamp v x es (take_transfers T Q stamp v x (e ∷ []) a) ≡ take_transfers T Q stamp v x (e ∷ es) a
  take_cons e es a = ap (take_transfers T Q stamp v x es) (take_one e [] a ∙ take_end _) ∙ sym (take_one e es a)

  module _ (e : Transfer) (a : Arrivals) where
    took_is : (h : Bool) (r : Option (ℕ × BoardedRun)) → h ≡ holds_target T Q e.pattern → r ≡ resolve T Q e (v + e.time) a.best
        → took h r e a ≡ take_transfers T Q stamp v x (e ∷ []) a
    took_is h r p q = sym (take_one e [] a ∙ take_end _ ∙ ap₂ (λ (y : Bool) (z : Option (ℕ × BoardedRun)). took y z e a) (sym p) (sym q))

    pub take_skip : (h : Bool) → h ≡ holds_target T Q e.pattern → not h ≡ true → a ≡ take_transfers T Q stamp v x (e ∷ []) a
    take_skip h p n = took_is false (resolve T Q e (v + e.time) a.best) (sym (not-true h n) ∙ p) refl

    pub take_none : (h : Bool) (f : Option BoardedTrip) → h ≡ holds_target T Q e.pattern → not h ≡ false → f ≡ None → resolved_of f ≡ resolve T Q e (v + e.time) a.best
        → a ≡ take_transfers T Q stamp v x (e ∷ []) a
    take_none h f p n i r = took_is true None (sym (not-false h n) ∙ p) (sym (ap resolved_of i) ∙ r)

    pub take_some : (h : Bool) (f : Option BoardedTrip) (off : ℕ) (b : BoardedTrip) → h ≡ holds_target T Q e.pattern → not h ≡ false → f ≡ Some b
        → resolved_of f ≡ resolve T Q e (v + e.time) a.best → off ≡ e.offset
        → enqueue T Q b.trip off (stop_at T b.trip off) b.run.time_shift_s
        (relax T Q stamp (stop_at T b.trip off) b.run.departure (Walk b.run.departure x (stop_at T b.trip off) e.time no_distance (stamp - 1)) a)
        ≡ take_transfers T Q stamp v x (e ∷ []) a
    take_some h f off b p n i r z =
        ap (λ (k : ℕ). enqueue T Q b.trip k (stop_at T b.trip k) b.run.time_shift_s (relax T Q stamp (stop_at T b.trip k) b.run.departure (Walk b.run.departure x (stop_at T b.trip k) e.time no_distance (stamp - 1)) a)) z
        ∙ took_is true (Some (b.trip, b.run)) (sym (not-false h n) ∙ p) (sym (ap resolved_of i) ∙ r)

  -- the transfers of a run from its j-th on
  abbrev pub take_from : List ℕ → ℕ → ℕ → ℕ → Arrivals → Arrivals
  take_from area first n j a = take_transfers T Q stamp v x (tab_from (λ k. transfer_at area (first + k)) j (n - j)) a

  pub from_turn : (area : List ℕ) (first n j : ℕ) (a : Arrivals) → j < n
      → take_from area first n (j + 1) (take_transfers T Q stamp v x (transfer_at area (first + j) ∷ []) a) ≡ take_from area first n j a
  unfolding tab_from
  from_turn area first n j a h =
      let e : n - j ≡ suc (n - (j + 1)) = omega arith in
      ap (λ (i : ℕ). take_transfers T Q stamp v x (tab_from (λ k. transfer_at area (first + k)) i (n - (j + 1))) (take_transfers T Q stamp v x (transfer_at area (first + j) ∷ []) a)) (add-one j)
      ∙ take_cons (transfer_at area (first + j)) (tab_from (λ k. transfer_at area (first + k)) (suc j) (n - (j + 1))) a
      ∙ sym (ap (λ (m : ℕ). take_transfers T Q stamp v x (tab_from (λ k. transfer_at area (first + k)) j m) a) e)

  pub from_grows : (area : List ℕ) (first n j : ℕ) (a : Arrivals) → length a.seg_queue ≤ length (take_from area first n j a).seg_queue
  from_grows area first n j a = take_grows (tab_from (λ k. transfer_at area (first + k)) j (n - j)) a

  pub from_end : (area : List ℕ) (first n j : ℕ) (a : Arrivals) → n ≤ j → a ≡ take_from area first n j a
  unfolding tab_from
  from_end area first n j a h =
      let e : n - j ≡ 0 = omega arith in
      sym (ap (λ (m : ℕ). take_transfers T Q stamp v x (tab_from (λ k. transfer_at area (first + k)) j m) a) e ∙ take_end a)

  pub from_start : (area : List ℕ) (first n : ℕ) (a : Arrivals) → take_from area first n 0 a ≡ take_transfers T Q stamp v x (tab_from (λ k. transfer_at area (first + k)) 0 n) a
  from_start area first n a = let e : n - 0 ≡ n = omega arith in ap (λ (m : ℕ). take_transfers T Q stamp v x (tab_from (λ k. transfer_at area (first + k)) 0 m) a) e

-- what a transfer resolves to is in the table, and early
pub boards_in : (T : Tables) (Q : Query) (D : Door T Q) (t : List ℕ) (c : Counts) → T.timetable ≡ timetable t c → (e : Transfer) (after best off : ℕ) (b : BoardedTrip) (f : Option BoardedTrip)
    → f ≡ Some b → resolved_of f ≡ resolve T Q e after best → off ≡ e.offset → BoardedAt t c b.trip off b.run.departure
boards_in T Q D t c u e after best off b f i r z = rw z (of (subst (Found T Q e.offset after) (sym r ∙ ap resolved_of i) (resolve_finds T Q e after best)))
  where
    of : Found T Q e.offset after (Some (b.trip, b.run)) → BoardedAt t c b.trip e.offset b.run.departure
    of (found g z) =
        record {
          trip_in = omega (arith, g.trip, ap (λ (z : Timetable). z.trips) u);
          offset_in = omega (arith, g.inside, ap (λ (z : Timetable). (z.trip b.trip).count) u);
          early = omega (arith, (boards_soon T Q D b.trip e.offset g.trip g.inside g.after b.run g.boards).departs);
        }

-- a boarding taken, its stop and windows read from the table
pub boarding_is : {lay : Lay} {stamp : ℕ} {w : List ℕ} {x y : Memory} {q r : List ℕ} (t : List ℕ) (c : Counts) (from off time trip : ℕ) (b : BoardedRun) (first s n : ℕ)
    → QueueStep lay stamp (λ T Q. EgressTable Q.egress lay w × (no_windows T trip ≡ eqb n 0))
    (λ T Q a. enqueue T Q trip off s b.time_shift_s (relax T Q stamp s b.departure (Walk b.departure from s time no_distance (stamp - 1)) a)) x y q r
    → first ≡ trip_of t c trip 0 → s ≡ time_of t (first + off) 0 → n ≡ trip_of t c trip 5
    → QueueStep lay stamp (λ T Q. EgressTable Q.egress lay w × (T.timetable ≡ timetable t c)) (λ T Q. boarded T Q stamp from off time trip b) x y q r
boarding_is {lay} {stamp} {w} {x} {y} {q} {r} t c from off time trip b first s n p ef es en =
    queue_as (λ T Q. boarded T Q stamp from off time trip b) p
    (λ T Q z. (z.0, ap (λ (k : Timetable). eqb (k.trip trip).windows 0) z.1 ∙ ap (λ (k : ℕ). eqb k 0) (sym en)))
    (λ T Q z. ap (λ (k : ℕ). enqueue T Q trip off k b.time_shift_s (relax T Q stamp k b.departure (Walk b.departure from k time no_distance (stamp - 1)) (arrivals_of lay x q)))
    (stop_read T t c trip off first s z.1 ef es))
