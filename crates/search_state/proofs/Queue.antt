-- A segment queued in memory is the model's. Assumes nothing.
use Prim.Native.Nat.{ℕ, zero, suc, ◌+◌, ◌*◌, ◌/◌, ◌≤◌, ◌<◌}
use mathlib.Core.Path.{◌≡◌, refl, sym, ap, ◌∙◌}
use mathlib.Core.Bool.{Bool, true, false, cond, not, ◌&&◌, ◌||◌}
use mathlib.Core.List.{List, [], ◌∷◌, ◌++◌}
use native.Mathlib.Omega.{arith}
use native.Mathlib.Numerals.{add-one}
use lib.ListN.{length, get_or, set, length-set, length-append}
use lib.Seq.{get_or-set_same, get_or-set_other}
use lib.Dec.{leb, ltb}
use lib.Ieee.{Float}
use borrow.Author.Tests.{leb-true, leb-false, le-ltb, lt-ltb}
use Rattle.loops.specs.Count.{tab_from}
use Rattle.loops.proofs.Count.{tab_ext, length_tab_from}
use Rattle.loops.proofs.Search.{clash}
use Rattle.model.specs.Tables.{Tables, Query, no_windows}
use Rattle.model.specs.Search.{Arrivals, Segment, enqueue}
use Rattle.query_types.specs.declared.Lay.{Lay}
use Rattle.query_types.specs.declared.Head.{Head}
use Rattle.search_state.specs.Part.{part}
use Rattle.search_state.specs.Places.{WorkSized, Same, earliest_of, stamps_of, reach_of}
use Rattle.search_state.specs.View.{Memory, memory, arrivals_of, segment_at, queue_of, put_segment}
use Rattle.search_state.specs.Step.{Ready, Step, QueueStep}
use Rattle.search_state.proofs.Part.{part_at, part_in, part_above, part_below}
use Rattle.search_state.proofs.Marking.{same_refl, same_then, same_low}
use Rattle.search_state.proofs.Steps.{walks_kept, grown_then}

tab_suc : {A : Type 0} (f : ℕ → A) (i n : ℕ) → tab_from f i (suc n) ≡ tab_from f i n ++ (f (i + n) ∷ [])
unfolding tab_from
tab_suc f i zero = let e : i + 0 ≡ i = omega arith in rw e refl
tab_suc f i (suc n) =
    let e : suc i + n ≡ i + suc n = omega arith in
    rw (tab_suc f (suc i) n, e) refl

-- one row more
module _ (g : Segment) (q : List ℕ) (n : ℕ) (h : 4 * n + 4 ≤ length q) where
  q1 : List ℕ
  q1 = set q (4 * n) g.trip

  q2 : List ℕ
  q2 = set q1 (4 * n + 1) g.offset

  q3 : List ℕ
  q3 = set q2 (4 * n + 2) g.stop

  q4 : List ℕ
  q4 = set q3 (4 * n + 3) g.shift

  apart : (i : ℕ) → i < 4 * n → get_or q4 i 0 ≡ get_or q i 0
  unfolding q1 q2 q3 q4
  apart i l =
      get_or-set_other q3 (4 * n + 3) i g.shift 0 (λ y. omega arith) ∙ get_or-set_other q2 (4 * n + 2) i g.stop 0 (λ y. omega arith)
      ∙ get_or-set_other q1 (4 * n + 1) i g.offset 0 (λ y. omega arith) ∙ get_or-set_other q (4 * n) i g.trip 0 (λ y. omega arith)

  before : (k : ℕ) → k < n → segment_at q4 k ≡ segment_at q k
  before k l =
      λ i. record {
        trip = apart (4 * k) (omega (arith, l)) i;
        offset = apart (4 * k + 1) (omega (arith, l)) i;
        stop = apart (4 * k + 2) (omega (arith, l)) i;
        shift = apart (4 * k + 3) (omega (arith, l)) i;
      }

  here : segment_at q4 n ≡ g
  unfolding q1 q2 q3 q4
  here =
      let l1 : length q1 ≡ length q = length-set q (4 * n) g.trip in
      let l2 : length q2 ≡ length q = length-set q1 (4 * n + 1) g.offset ∙ l1 in
      let l3 : length q3 ≡ length q = length-set q2 (4 * n + 2) g.stop ∙ l2 in
      let a : get_or q4 (4 * n) 0 ≡ g.trip =
      get_or-set_other q3 (4 * n + 3) (4 * n) g.shift 0 (λ y. omega arith) ∙ get_or-set_other q2 (4 * n + 2) (4 * n) g.stop 0 (λ y. omega arith)
      ∙ get_or-set_other q1 (4 * n + 1) (4 * n) g.offset 0 (λ y. omega arith) ∙ get_or-set_same q (4 * n) g.trip 0 (omega (arith, h)) in
      let b : get_or q4 (4 * n + 1) 0 ≡ g.offset =
      get_or-set_other q3 (4 * n + 3) (4 * n + 1) g.shift 0 (λ y. omega arith) ∙ get_or-set_other q2 (4 * n + 2) (4 * n + 1) g.stop 0 (λ y. omega arith)
      ∙ get_or-set_same q1 (4 * n + 1) g.offset 0 (omega (arith, h, l1)) in
      let c : get_or q4 (4 * n + 2) 0 ≡ g.stop =
      get_or-set_other q3 (4 * n + 3) (4 * n + 2) g.shift 0 (λ y. omega arith) ∙ get_or-set_same q2 (4 * n + 2) g.stop 0 (omega (arith, h, l2)) in
      let d : get_or q4 (4 * n + 3) 0 ≡ g.shift = get_or-set_same q3 (4 * n + 3) g.shift 0 (omega (arith, h, l3)) in
      λ i. record { trip = a i; offset = b i; stop = c i; shift = d i }

  pub queue_more : queue_of (put_segment g q n) (n + 1) ≡ queue_of q n ++ (g ∷ [])
  unfolding queue_of put_segment q1 q2 q3 q4
  queue_more =
      let e : 0 + n ≡ n = omega arith in
      rw (add-one n, tab_suc (segment_at q4) 0 n, e, here, tab_ext (segment_at q4) (segment_at q) n before) refl

  pub put_length : length (put_segment g q n) ≡ length q
  unfolding put_segment
  put_length = simp length-set refl

pub queue_length : (q : List ℕ) (n : ℕ) → length (queue_of q n) ≡ n
unfolding queue_of
queue_length q n = length_tab_from (segment_at q) 0 n

-- the model's test, as the code asks it
test_is : (p : Bool) (r o : ℕ) → (not p || ltb o r) ≡ not (p && leb r o)
test_is false r o = refl
test_is true r o = go (leb r o) refl
  where
    go : (b : Bool) → leb r o ≡ b → ltb o r ≡ not b
    go true e = le-ltb o r (leb-true r o e)
    go false e = lt-ltb o r (leb-false r o e)

module _ (T : Tables) (Q : Query) (t o s shift : ℕ) (p : Bool) (a : Arrivals) (e : no_windows T t ≡ p) where
  test : (not (no_windows T t) || ltb o (get_or a.seg_reach t 0)) ≡ not (p && leb (get_or a.seg_reach t 0) o)
  test = rw e (test_is p (get_or a.seg_reach t 0) o)

  enqueue_not : p && leb (get_or a.seg_reach t 0) o ≡ true → enqueue T Q t o s shift a ≡ a
  unfolding enqueue
  enqueue_not h = rw (test ∙ ap not h, enqueue) refl

  abbrev queued_by : Arrivals
  queued_by =
      record {
        labels = a.labels;
        earliest = a.earliest;
        best = a.best;
        stop_stamp = a.stop_stamp;
        reached = a.reached;
        seg_queue = a.seg_queue ++ (record { trip = t; offset = o; stop = s; shift = shift } ∷ []);
        seg_reach = elim p [ true ↦ set a.seg_reach t o | false ↦ a.seg_reach ];
      }

  enqueue_go : p && leb (get_or a.seg_reach t 0) o ≡ false → enqueue T Q t o s shift a ≡ queued_by
  unfolding enqueue
  enqueue_go h = rw (test ∙ ap not h, enqueue) (rw e refl)

-- COMPOSING. A step that queues nothing, as one that may
pub queue_step : {lay : Lay} {stamp : ℕ} {agree : Tables → Query → Type 0} {f : Tables → Query → Arrivals → Arrivals} {a b : Memory} (q : List ℕ)
    → Step lay stamp agree f a b → a.head.full ≡ false → a.head.queued ≤ length q / 4 → QueueStep lay stamp agree f a b q q
queue_step q p n r =
    record {
      view = λ u T Q y. p.view T Q y q;
      over = λ u. absurd (clash u (p.full ∙ n));
      same = p.same;
      ready = p.ready;
      grown = p.grown;
      size = refl;
      room = omega (arith, p.queued, r);
    }

-- one after the other, where all fit so far
pub queue_then : {lay : Lay} {stamp : ℕ} {agree agree' : Tables → Query → Type 0} (both : Tables → Query → Type 0) {f g : Tables → Query → Arrivals → Arrivals}
    {a b c : Memory} {q r s : List ℕ} → QueueStep lay stamp agree f a b q r → b.head.full ≡ false → QueueStep lay stamp agree' g b c r s
    → ((T : Tables) (Q : Query) → both T Q → agree T Q × agree' T Q) → QueueStep lay stamp both (λ T Q x. g T Q (f T Q x)) a c q s
queue_then {lay} {stamp} {agree} {agree'} both {f} {g} {a} {b} {c} {q} {r} {s} p n z h =
    record {
      view = λ u T Q y. z.view u T Q (h T Q y).1 ∙ ap (g T Q) (p.view n T Q (h T Q y).0);
      over = λ u T Q y.
          let e = ap (λ (x : Arrivals). length (g T Q x).seg_queue) (p.view n T Q (h T Q y).0) in
          omega (arith, z.over u T Q (h T Q y).1, e, ap (λ (x : ℕ). x / 4) p.size);
      same = same_then p.same z.same;
      ready = z.ready;
      grown = grown_then p.grown z.grown;
      size = z.size ∙ p.size;
      room = z.room;
    }

-- seg_reach of a trip lowered, or not
record Lowered (lay : Lay) (p : Bool) (t o count : ℕ) (w w' : List ℕ) : Type 0 where
  pub earliest : earliest_of lay w' ≡ earliest_of lay w
  pub stamps : stamps_of lay w' ≡ stamps_of lay w
  pub reached : part w' lay.list count ≡ part w lay.list count
  pub reach : reach_of lay w' ≡ elim p [ true ↦ set (reach_of lay w) t o | false ↦ reach_of lay w ]
  pub same : Same lay w w'

lowered : (lay : Lay) (p : Bool) (t o count : ℕ) (w : List ℕ) → WorkSized lay (length w) → t < lay.trips
    → Lowered lay p t o count w (cond p (set w (lay.stops * 2 + t) o) w)
lowered lay false t o count w ok h = record { earliest = refl; stamps = refl; reached = refl; reach = refl; same = same_refl lay w }
lowered lay true t o count w ok h =
    record {
      earliest = part_above w 0 lay.stops (lay.stops * 2 + t) o (omega arith);
      stamps = part_above w lay.stops lay.stops (lay.stops * 2 + t) o (omega arith);
      reached = part_below w lay.list count (lay.stops * 2 + t) o (omega (arith, ok.first, h));
      reach = part_in w (lay.stops * 2) lay.trips t o h;
      same = same_low lay w ok (lay.stops * 2 + t) o (omega (arith, h));
    }

-- ENQUEUE: not queued, no room, queued
module _ (lay : Lay) (stamp : ℕ) (w l : List ℕ) (m : List Float) (h : Head) (q : List ℕ) (p : Bool) (t o s shift : ℕ) (ok : Ready lay stamp (memory w l m h)) (in-trips : t < lay.trips) (room : h.queued ≤ length q / 4) where
  abbrev agreed : Tables → Query → Type 0
  agreed T Q = no_windows T t ≡ p

  abbrev queuing : Tables → Query → Arrivals → Arrivals
  queuing T Q = enqueue T Q t o s shift

  abbrev now_head : ℕ → Bool → Head
  now_head n b = record { best = h.best; count = h.count; queued = n; full = b }

  known : (b : Bool) → p && leb (get_or w (lay.stops * 2 + t) 0) o ≡ b → p && leb (get_or (reach_of lay w) t 0) o ≡ b
  known b e = rw (part_at w (lay.stops * 2) lay.trips t in-trips) e

  kept : (b : Bool) → Ready lay stamp (memory w l m (now_head h.queued b))
  kept b = record { sized = ok.sized; walks = ok.walks; counted = ok.counted; round = ok.round; written = ok.written }

  pub queue_not : p && leb (get_or w (lay.stops * 2 + t) 0) o ≡ true → QueueStep lay stamp agreed queuing (memory w l m h) (memory w l m (now_head h.queued false)) q q
  queue_not e =
      record {
        view = λ u T Q y. sym (enqueue_not T Q t o s shift p (arrivals_of lay (memory w l m h) q) y (known true e));
        over = λ u. absurd (clash u refl);
        same = same_refl lay w;
        ready = kept false;
        grown = record { by = omega arith };
        size = refl;
        room = room;
      }

  pub queue-full : p && leb (get_or w (lay.stops * 2 + t) 0) o ≡ false → length q / 4 ≤ h.queued
      → QueueStep lay stamp agreed queuing (memory w l m h) (memory w l m (now_head h.queued true)) q q
  queue-full e f =
      record {
        view = λ u. absurd (clash refl u);
        over = λ u T Q y.
            let a = arrivals_of lay (memory w l m h) q in
            let n = ap (λ (x : Arrivals). length x.seg_queue) (enqueue_go T Q t o s shift p a y (known false e)) in
            omega (arith, n, length-append a.seg_queue (record { trip = t; offset = o; stop = s; shift = shift } ∷ []), queue_length q h.queued, f);
        same = same_refl lay w;
        ready = kept true;
        grown = record { by = omega arith };
        size = refl;
        room = room;
      }

  pub queue_put : (w' q' : List ℕ) → p && leb (get_or w (lay.stops * 2 + t) 0) o ≡ false → h.queued < length q / 4
      → q' ≡ put_segment (record { trip = t; offset = o; stop = s; shift = shift }) q h.queued → w' ≡ cond p (set w (lay.stops * 2 + t) o) w
      → QueueStep lay stamp agreed queuing (memory w l m h) (memory w' l m (now_head (h.queued + 1) false)) q q'
  queue_put w' q' e f x y =
      let g : Segment = record { trip = t; offset = o; stop = s; shift = shift } in
      let d : Lowered lay p t o h.count w w' = rw y (lowered lay p t o h.count w ok.sized.sections in-trips) in
      let k : length q' ≡ length q = ap length x ∙ put_length g q h.queued (omega (arith, f)) in
      record {
        view = λ u T Q z.
            (λ i. record {
              labels = (arrivals_of lay (memory w l m h) q).labels;
              earliest = d.earliest i;
              best = h.best;
              stop_stamp = d.stamps i;
              reached = d.reached i;
              seg_queue = (ap (λ (r : List ℕ). queue_of r (h.queued + 1)) x ∙ queue_more g q h.queued (omega (arith, f))) i;
              seg_reach = d.reach i;
            }) ∙ sym (enqueue_go T Q t o s shift p (arrivals_of lay (memory w l m h) q) z (known false e));
        over = λ u. absurd (clash u refl);
        same = d.same;
        ready = record {
          sized = rw d.same.size ok.sized;
          walks = walks_kept d.same ok.walks;
          counted = record { fits = rw d.stamps ok.counted.fits };
          round = ok.round;
          written = ok.written;
        };
        grown = record { by = rw d.stamps (omega arith) };
        size = k;
        room = omega (arith, f, ap (λ (z : ℕ). z / 4) k);
      }
