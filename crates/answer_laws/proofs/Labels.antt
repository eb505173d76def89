-- What every label of an admitted run says, and how a stop's rows go with its earliest arrival. In both modes, on every day.
use Prim.Native.Nat.{ℕ, ◌*◌, ◌-◌, ◌≤◌, ◌<◌}
use mathlib.Core.Path.{◌≡◌, refl, sym, ap, subst, ◌∙◌}
use mathlib.Core.List.{Memᴰ}
use native.Mathlib.Omega.{arith}
use lib.ListN.{length, length-set, length-replicate}
use lib.Dec.{eqb}
use lib.Ieee.{Float}
use borrow.Author.Tests.{eqb-true}
use Rattle.door.specs.Door.{time_limit}
use Rattle.walk_time.proofs.Laws.{duration_most}
use Rattle.stop_delay.specs.Times.{size_of}
use Rattle.label.specs.declared.Label.{Label}
use Rattle.label.specs.declared.Label.TheVariants.{Empty, Access, Transit, Walk}
use Rattle.label.specs.Table.{record_of}
use Rattle.model.specs.Tables.{Tables, Query, never, stops, trips, edges_from, walk_time}
use Rattle.model.specs.Search.{Segment, Arrivals}
use Rattle.model.specs.Door.{Door}
use Rattle.answer_laws.specs.Lawful.{latest, label_in, AccessFits, TransitFits, transfer, edge, WalkFits, LabelFits, access, transit, walk, Begins}
use Rattle.answer_laws.proofs.Stores.{keep_in, upto_in}
use Rattle.answer_laws.proofs.Steps.{lists_long, Rides, alighted, changed, Why, origin, ride, foot, Kept}
use Rattle.model.proofs.Sizes.{latest_boarding, arrival_early, boards_soon}

abbrev pub label_at : Arrivals → ℕ → ℕ → Label
label_at a s row = label_in a.labels s row

module _ (T : Tables) (Q : Query) where
  -- the same, read off
  pub transit_fits : {s row v t x o p r shift : ℕ} → LabelFits T Q s row (Transit v t x o p r shift) → TransitFits T Q s row v t x o p r shift
  transit_fits (transit f) = f

  pub walk_fits : {s row v x y d r : ℕ} {f : Float} → LabelFits T Q s row (Walk v x y d f r) → WalkFits T Q s row v x y d f r
  walk_fits (walk f) = f

  pub access_fits : {s row x v d : ℕ} {f : Float} → LabelFits T Q s row (Access x v d f) → AccessFits T Q s row x v d f
  access_fits (access f) = f

  module _ (D : Door T Q) where
    edge_in : (x e : ℕ) → Memᴰ e (edges_from T x) → ((T.timetable.edge e).from ≡ x) × (e < T.timetable.edges)
    unfolding edges_from
    edge_in x e m =
        let k = keep_in (λ k. eqb (T.timetable.edge k).from x) e _ m in (eqb-true _ _ k.0, omega (arith, upto_in 0 T.timetable.edges e k.1))

    pub begins_shift : (g : Segment) → Begins T Q g → size_of g.shift ≤ time_limit
    begins_shift g G =
        let B = G.boarded in
        subst (λ (z : ℕ). size_of z ≤ time_limit) (sym G.shift)
        (boards_soon T Q D g.trip g.offset B.trip B.inside B.after G.boarding B.boards).shift

    -- a ride phase reaches a stop of the timetable by the latest boarding
    pub rides_early : {stamp s v : ℕ} {l : Label} → Rides T Q stamp s v l → (s < stops T) × (v ≤ latest_boarding)
    rides_early (alighted g p G L f) = (
      D.stop_in g.trip p G.boarded.trip L.inside,
      omega
          (arith, arrival_early T Q D g.trip p G.boarded.trip L.inside g.shift (begins_shift g G)),
    )
    rides_early (changed g p G L t o time b B e n) =
        (D.stop_in t o B.trip B.inside, (boards_soon T Q D t o B.trip B.inside B.after b B.boards).departs)

    walk_short : (x e : ℕ) → Memᴰ e (edges_from T x) → walk_time T Q e ≤ 104857500
    walk_short x e m = duration_most _ _ _ (D.edge_small e (edge_in x e m).1)

    -- every improvement is of a stop of the timetable, and not late
    pub why_early : {stamp s v : ℕ} {l : Label} → Why T Q stamp s v l → (s < stops T) × (v ≤ latest)
    why_early (origin a m) = (D.origin_in a m, omega (arith, D.start_small, D.origin_small a m))
    why_early (ride h j) = ((rides_early j).0, omega (arith, (rides_early j).1))
    why_early (foot x e u w l h j k m) = (D.edge_to e (edge_in x e m).1, omega (arith, k, (rides_early j).1, walk_short x e m))

    pub why_stamp : {stamp s v : ℕ} {l : Label} → Why T Q stamp s v l → 1 ≤ stamp
    why_stamp (origin a m) = omega arith
    why_stamp (ride h j) = omega arith
    why_stamp (foot x e u w l h j k m) = omega arith

    -- and its label fits
    pub why_fits : {stamp s v : ℕ} {l : Label} → Why T Q stamp s v l → LabelFits T Q s (stamp - 1) l
    why_fits (origin a m) =
        access (record { origin = a; listed = m; first = refl; here = refl; stop = refl; arrival = refl; duration = refl; distance = refl })
    why_fits {stamp} (ride h (alighted g p G L f)) =
        transit {r = stamp - 2}
        (record {
          permits = L.permits;
          trip = G.boarded.trip;
          boards = G.stop;
          pickup = G.boarded.pickup;
          started = G.boarded.served;
          alights = refl;
          drop_off = L.drop_off;
          served = f;
          later = L.later;
          inside = L.inside;
          round = omega arith;
          after = G.boarded.after;
          boarding = G.boarding;
          leaves = G.boarded.boards;
          shift_is = G.shift;
          arrival = refl;
          arrives = arrival_early T Q D g.trip p G.boarded.trip L.inside g.shift (begins_shift g G);
          shifts = begins_shift g G;
        })
    why_fits (ride h (changed g p G L t o time b B e n)) =
        walk {d = time}
        (record {
          from = D.stop_in g.trip p G.boarded.trip L.inside;
          to = refl;
          how = transfer
              (record {
                ride = g;
                begins = G;
                left = p;
                leaves = L;
                from = refl;
                trip = t;
                offset = o;
                boarding = b;
                boarded = B;
                in_time = e;
                to = refl;
                departs = refl;
                time = n;
                distance = refl;
              });
          round = refl;
          ridden = omega arith;
          arrives = (why_early (ride h (changed g p G L t o time b B e n))).1;
          duration = omega arith;
        })
    why_fits (foot x e u w l h j k m) =
        walk
        (record {
          from = (rides_early j).0;
          to = refl;
          how = edge e m refl refl refl;
          round = refl;
          ridden = omega arith;
          arrives = (why_early (foot x e u w l h j k m)).1;
          duration = walk_short x e m;
        })

  -- the tables keep their lengths
  pub record Lengths (a : Arrivals) : Type 0 where
    pub labels : length a.labels ≡ stops T * 13
    pub earliest : length a.earliest ≡ stops T
    pub stop_stamp : length a.stop_stamp ≡ stops T
    pub seg_reach : length a.seg_reach ≡ trips T

  pub lengths_kept : Kept T Q (λ stamp a. Lengths a)
  lengths_kept =
      record {
        new = record {
          labels = length-replicate (stops T * 13) Empty;
          earliest = length-replicate (stops T) never;
          stop_stamp = length-replicate (stops T) 0;
          seg_reach = length-replicate (trips T) never;
        };
        improves = λ {stamp} {s} {v} {l} {a} {b} w e h i p. record {
          labels = ap length i.labels ∙ length-set a.labels (record_of s (stamp - 1)) l ∙ p.labels;
          earliest = ap length i.earliest ∙ length-set a.earliest s v ∙ p.earliest;
          stop_stamp = lists_long T Q i.lists ∙ p.stop_stamp;
          seg_reach = ap length i.reaches ∙ p.seg_reach;
        };
        hears = λ w h p. record {
          labels = ap length h.labels ∙ p.labels;
          earliest = ap length h.earliest ∙ p.earliest;
          stop_stamp = ap length h.stamps ∙ p.stop_stamp;
          seg_reach = ap length h.reaches ∙ p.seg_reach;
        };
        queues = λ h p. record {
          labels = ap length h.labels ∙ p.labels;
          earliest = ap length h.earliest ∙ p.earliest;
          stop_stamp = ap length h.stamps ∙ p.stop_stamp;
          seg_reach = h.reaches ∙ p.seg_reach;
        };
        next = λ p. p;
      }
