-- Demand 3, whole: on every steady day, and so on every plain one, of every answered query.
use Prim.Native.Nat.{ℕ, zero, suc, ◌+◌, ◌*◌, ◌≤◌, ◌<◌}
use mathlib.Core.Path.{◌≡◌, refl, sym, ap, subst, fun_ext, ◌∙◌}
use mathlib.Core.Bool.{Bool, true, false, cond, ◌&&◌, ◌||◌, not}
use mathlib.Core.List.Memᴰ
use mathlib.Core.List.{List, [], Memᴰ}
use native.Mathlib.Omega.{arith}
use native.Mathlib.Nat.{min-le_left, add-zero}
use lib.Dec.{eqb}
use borrow.Author.Tests.{not-true, ne_eqb}
use Rattle.door.specs.Door.{time_limit}
use Rattle.loops.specs.Iter.{Hit, miss}
use Rattle.loops.proofs.Search.{first_isnt}
use Rattle.walk_time.specs.Walk.{effective_duration, stairs_or_escalator, round_count}
use Rattle.model.specs.Tables.{never, Tables, Query, rounds_of, change_before, egress_walk, stops, trips, stop_at, arrival, departure, edge_to, walk_time}
use Rattle.model.specs.Search.{SearchAnswer, delay_of, undelayed, departure_now, best_target, final, search_answer, use_arc_flags, run_tbr, query}
use Rattle.model.specs.Door.{Door}
use Rattle.model.specs.Promise.{TripTimes, scheduled, effective, PlainDay, SteadyDay, TripDelays, Journey, Way, Arrives, Demand3, Pareto}
use Rattle.model.proofs.Base.{no_both}
use Rattle.model.proofs.Net.{Plain}
use Rattle.model.proofs.Switch.{put-off}
use Rattle.model.proofs.PlainSearch
use Rattle.model.proofs.Rounds.{Reach, j_access, j_ride, j_walk}
use Rattle.model.proofs.Ways
use Rattle.model.proofs.PlainTotals
use Rattle.model.proofs.Pareto
use Rattle.model.proofs.NetOf.{net, pair_of, origin_of}
use Rattle.model.proofs.Simulation.{Calm, small, sim_answer, sim_scans}
use Rattle.model.proofs.Delayed.{on_time, stops_there, arrives_early}
use Rattle.model.proofs.TripDelays.{trip_delays_steady}
use Rattle.model.proofs.PlainNet.{boarding-of, alighting_of, of_row, at_count, edge_in, edge_of, of_edge, origin-of, egress_is, calm_mark, calm_trips, plain}

neither : (a b : Bool) → a ≡ false → b ≡ false → not (a || b) ≡ true
neither true b e f = absurd (no_both refl e)
neither false true e f = absurd (no_both refl f)
neither false false e f = refl

-- at most 12 rounds
pub rounds_few : (Q : Query) → rounds_of Q ≤ 12
unfolding round_count
rounds_few Q = min-le_left 12 _

module _ (T : Tables) (Q : Query) where
  pub change_same : (r : ℕ) → change_before Q r ≡ PlainSearch.change (net T Q) r
  unfolding change_before PlainSearch.change
  change_same zero = refl
  change_same (suc r) = refl

  pub walk_small : (e : ℕ) → (T.timetable.edge e).duration ≤ time_limit → walk_time T Q e ≤ 104857500
  unfolding effective_duration
  walk_small e h = go (Q.wheelchair && stairs_or_escalator (T.timetable.edge e).pathway)
    where
      go : (b : Bool) → cond b ((T.timetable.edge e).duration * 100) (T.timetable.edge e).duration ≤ 104857500
      go true = omega arith
      go false = omega arith

  module _ (D : Door T Q) where
    -- a journey stands at a stop of the table
    journey_in : (b : Bool) (n x v : ℕ) → Journey T Q (effective T Q) b n x v → x < stops T
    journey_in b n x v (Journey.access a m) = D.origin_in a m
    journey_in b n x v (Journey.ride {b = b'} {n = n'} {x = y} {v = w} t o p j r a l) = D.stop_in t p (D.listed_trip y _ (journey_in b' n' y w j) r.listed) a.inside
    journey_in b n x v (Journey.foot {n = n'} {x = y} {v = w} e j m) = D.edge_to e (edge_in T y e m).0

    journey_rode : (b : Bool) (n x v : ℕ) → Journey T Q (effective T Q) b n x v → b ≡ true → v ≤ 2097150
    journey_rode b n x v (Journey.access a m) e = absurd (no_both e refl)
    journey_rode b n x v (Journey.ride {b = b'} {n = n'} {x = y} {v = w} t o p j r a l) e = arrives_early T Q D t p (D.listed_trip y _ (journey_in b' n' y w j) r.listed) a.inside
    journey_rode b n x v (Journey.foot f j m) e = absurd (no_both e refl)

    -- and comes nowhere near `never`
    pub journey_small : (b : Bool) (n x v : ℕ) → Journey T Q (effective T Q) b n x v → v ≤ 106954650
    journey_small b n x v (Journey.access a m) = omega (arith, D.start_small, D.origin_small a m)
    journey_small b n x v (Journey.ride {b = b'} {n = n'} {x = y} {v = w} t o p j r a l) = omega (arith, journey_rode true (suc n') (stop_at T t p) ((effective T Q).arrives t p) (Journey.ride t o p j r a l) refl)
    journey_small b n x v (Journey.foot {n = n'} {x = y} {v = w} e j m) = omega (arith, journey_rode true n' y w j refl, walk_small e (D.edge_small e (edge_in T y e m).0))

    pub reach_of : (b : Bool) (n x v : ℕ) → Journey T Q (effective T Q) b n x v → Reach (net T Q) b n x v
    reach_of b n x v (Journey.access a m) = j_access (Memᴰ.map origin_of m)
    reach_of b n x v (Journey.ride {b = b'} {n = n'} {x = y} {v = w} t o p j r a l) =
        let h = journey_in b' n' y w j in
        j_ride t o p (reach_of b' n' y w j) (of_row T y t o h r.listed) r.trip (neither _ _ r.pickup (not-true _ r.served)) (omega (arith, l, change_same n')) (omega (arith, a.later)) (omega (arith, a.inside, at_count T t (D.listed_trip y _ h r.listed))) (neither _ _ a.drop_off (not-true _ a.served))
    reach_of b n x v (Journey.foot {n = n'} {x = y} {v = w} e j m) = j_walk (reach_of true n' y w j) (of_edge T Q y e m)

  way_of : {L : List (ℕ × ℕ × ℕ)} (x v q : ℕ) → Ways.Way (net T Q) L x v q → Way T Q (effective T Q) L x v q
  way_of {L} x v q (Ways.w_access {s = s} {d = d} m) =
      let a = origin-of Q s d m in
      subst (λ (z : ℕ). Way T Q (effective T Q) L z (Q.start + d) zero) a.at (subst (λ (z : ℕ). Way T Q (effective T Q) L a.walk.stop (Q.start + z) zero) a.lasts (Way.access a.walk a.member))
  way_of {L} x v q (Ways.w_ride {x = y} {v = w} {q = q'} r t o p j h i m k c l z n a) =
      Way.ride r t o p (way_of y w q' j) (omega (arith, h)) i (boarding-of T Q y t o m k c).1 (alighting_of T Q t o p z n a) (omega (arith, l, change_same r))
  way_of {L} x v q (Ways.w_walk {x = y} {v = w} {q = q'} {y = y'} {d = d} j m) =
      let e = edge_of T Q y y' d m in
      subst (λ (z : ℕ). Way T Q (effective T Q) L z (w + d) q') e.to (subst (λ (z : ℕ). Way T Q (effective T Q) L (edge_to T e.edge) (w + z) q') e.walk (Way.foot e.edge (way_of y w q' j) e.member))

  arrives_of : {n total stop : ℕ} → PlainTotals.Arrives (net T Q) (search_answer T Q false).scans n total stop → Arrives T Q (effective T Q) total stop
  arrives_of {stop = stop} a =
      record {
        reached = a.reached;
        last_round = a.good.last;
        way = subst (λ (A : SearchAnswer). Way T Q (effective T Q) A.scans stop a.reached a.good.last) (sym (put-off T Q)) (way_of stop a.reached a.good.last a.good.way);
        walk = a.walk;
        egress = a.egress;
        sum = a.sum;
      }

-- on a steady day, unflagged
calm : (T : Tables) (Q : Query) → Door T Q → SteadyDay T Q → Calm T Q
calm T Q D S =
    record {
      marks = calm_mark T Q D S;
      listed = λ x d m. let e = calm_trips T Q D S x d m in
          let c = at_count T d.trip e.0 in
          record {
            known = e.0;
            unwindowed = e.1;
            arrives = λ i k p l n a. let b = boarding-of T Q x d.trip d.offset (Memᴰ.map pair_of m) i k in
                S.conditions.one-arrival x d.trip d.offset p b.0 b.1
                (alighting_of T Q d.trip _ p (omega (arith, l)) (omega (arith, c, n)) a);
          };
    }

unflagged : (T : Tables) (Q : Query) → Door T Q → SteadyDay T Q → Demand3 T Q (effective T Q) (search_answer T Q false)
unfolding search_answer
unflagged T Q D S =
    record {
      lowest = λ v j. let e = egress_is Q.egress D.egress_rising j.stop j.walk j.egress in
          omega (arith, j.sum, e.1, d.lowest j.just_rode j.ride_count j.stop j.reached (omega (arith, j.fits)) (reach_of T Q D j.just_rode j.ride_count j.stop j.reached j.journey) e.0 (omega (arith, journey_small T Q D j.just_rode j.ride_count j.stop j.reached j.journey)));
      no_way = λ q v j. let e = egress_is Q.egress D.egress_rising j.stop j.walk j.egress in
          d.none q j.just_rode j.ride_count j.stop j.reached (omega (arith, j.fits)) (reach_of T Q D j.just_rode j.ride_count j.stop j.reached j.journey) e.0
          (omega (arith, journey_small T Q D j.just_rode j.ride_count j.stop j.reached j.journey, e.1, D.egress_small j.stop j.walk j.egress));
      best = λ q. arrives_of T Q (d.best q);
      each = λ total stop row m. arrives_of T Q (d.each total stop row (shown (eqb (best_target T Q (final T Q false).arrivals Q.egress (never, never)).0 never) total stop row m));
    }
  where
    C : Calm T Q
    C = calm T Q D S

    -- a candidate shown is one of the rows'
    shown : (b : Bool) (total stop row : ℕ) → Memᴰ {A = ℕ × ℕ × ℕ} (total, stop, row) (elim b [ true ↦ [] | false ↦ (small T Q (final T Q false)).cand ]) → Memᴰ (total, stop, row) (small T Q (final T Q false)).cand
    shown true total stop row m = absurd (Memᴰ.not-nil m)
    shown false total stop row m = m

    N-plain : Plain (net T Q)
    N-plain = plain T Q D S

    d : PlainTotals.Demand3 (net T Q) (search_answer T Q false).scans (rounds_of Q) (small T Q (final T Q false))
    d =
        subst (λ (L : List (ℕ × ℕ × ℕ)). PlainTotals.Demand3 (net T Q) L (rounds_of Q) (small T Q (final T Q false))) (sym (sim_scans T Q N-plain C))
        (subst (λ (z : PlainSearch.Answer (net T Q)). PlainTotals.Demand3 (net T Q) (PlainSearch.run (net T Q) (trips T) (rounds_of Q)).k.log (rounds_of Q) z) (sym (sim_answer T Q N-plain C))
        (PlainTotals.demand3 (net T Q) N-plain (trips T) (rounds_of Q) (rounds_few Q)))

-- the candidates are Pareto-complete
unflagged_pareto : (T : Tables) (Q : Query) → Door T Q → SteadyDay T Q → Pareto T Q (effective T Q) (search_answer T Q false)
unfolding search_answer
unflagged_pareto T Q D S =
    record {
      covers = λ k v b j s.
          let e = egress_is Q.egress D.egress_rising j.stop j.walk j.egress in
          let h = journey_small T Q D j.just_rode j.ride_count j.stop j.reached j.journey in
          let g = D.egress_small j.stop j.walk j.egress in
          let low = (unflagged T Q D S).lowest v (record { just_rode = j.just_rode; ride_count = j.ride_count; stop = j.stop; reached = j.reached; journey = j.journey; fits = omega (arith, j.fits, b); walk = j.walk; egress = j.egress; sum = j.sum }) in
          let c =
          subst (λ (z : PlainSearch.Answer (net T Q)). j.reached + egress_walk Q.egress j.stop ≤ z.total + Q.settings.candidate_slack → Pareto.Covers (net T Q) z.cand k (j.reached + egress_walk Q.egress j.stop)) (sym (sim_answer T Q N-plain C))
          (Pareto.pareto (net T Q) N-plain (trips T) (rounds_of Q) k (rounds_few Q) b j.just_rode j.ride_count j.stop j.reached (omega (arith, j.fits)) (reach_of T Q D j.just_rode j.ride_count j.stop j.reached j.journey) e.0 (omega (arith, h, g, e.1)))
          (omega (arith, s, j.sum, e.1)) in
          (c.candidate, subst (λ (z : Bool). Memᴰ c.candidate (elim z [ true ↦ [] | false ↦ (small T Q (final T Q false)).cand ])) (sym (ne_eqb (search_answer T Q false).total never (λ z. omega (arith, z, low, j.sum, h, g)))) c.listed, omega (arith, c.early, j.sum, e.1), c.row);
    }
  where
    C : Calm T Q
    C = calm T Q D S

    N-plain : Plain (net T Q)
    N-plain = plain T Q D S

-- STEADY DAYS: demand 3, of the query's answer
pub steady : (T : Tables) (Q : Query) → Door T Q → SteadyDay T Q → Demand3 T Q (effective T Q) (query T Q)
unfolding query
steady T Q D S = subst (λ (b : Bool). Demand3 T Q (effective T Q) (search_answer T Q b)) (sym S.calm.conditions.no_flags) (unflagged T Q D S)

-- and of `run_tbr`'s, wherever the Rust's `use_arc_flags` is false
pub steady_rust : (T : Tables) (Q : Query) → Door T Q → SteadyDay T Q → use_arc_flags T Q ≡ false → Demand3 T Q (effective T Q) (run_tbr T Q)
unfolding run_tbr
steady_rust T Q D S e = subst (λ (b : Bool). Demand3 T Q (effective T Q) (search_answer T Q b)) (sym e) (unflagged T Q D S)

-- beyond the request: the candidates are Pareto-complete
pub steady_pareto : (T : Tables) (Q : Query) → Door T Q → SteadyDay T Q → Pareto T Q (effective T Q) (query T Q)
unfolding query
steady_pareto T Q D S = subst (λ (b : Bool). Pareto T Q (effective T Q) (search_answer T Q b)) (sym S.calm.conditions.no_flags) (unflagged_pareto T Q D S)

pub steady_pareto_rust : (T : Tables) (Q : Query) → Door T Q → SteadyDay T Q → use_arc_flags T Q ≡ false → Pareto T Q (effective T Q) (run_tbr T Q)
unfolding run_tbr
steady_pareto_rust T Q D S e = subst (λ (b : Bool). Pareto T Q (effective T Q) (search_answer T Q b)) (sym e) (unflagged_pareto T Q D S)

-- PLAIN DAYS. Without delay rows there are no stop rows, and every trip is without a delay row
pub no_row : (T : Tables) (Q : Query) → PlainDay T Q → (t : ℕ) → delay_of Q t ≡ miss
no_row T Q P t = first_isnt _ Q.delays.delays (λ j h. absurd (omega (arith, P.conditions.no-delays)))

-- so effective times are the scheduled ones, and every stop is served
pub plain_times : (T : Tables) (Q : Query) → PlainDay T Q → effective T Q ≡ scheduled T
plain_times T Q P =
    ap (λ (d : ℕ → ℕ → ℕ). record { departs = d; arrives = (effective T Q).arrives; served = (effective T Q).served })
    (fun_ext (λ t. fun_ext (λ o. ap (λ (h : Hit). departure_now T Q h t o) (no_row T Q P t) ∙ add-zero (departure T t o))))
    ∙ ap (λ (a : ℕ → ℕ → ℕ). record { departs = departure T; arrives = a; served = (effective T Q).served })
    (fun_ext (λ t. fun_ext (λ o. on_time T Q (delay_of Q t) t o (ap undelayed (no_row T Q P t)) ∙ add-zero (arrival T t o))))
    ∙ ap (λ (s : ℕ → ℕ → Bool). record { departs = departure T; arrives = arrival T; served = s })
    (fun_ext (λ t. fun_ext (λ o. ap not (stops_there T Q (delay_of Q t) t o (ap undelayed (no_row T Q P t))))))

-- and each plain day is a steady one
pub steady_of : (T : Tables) (Q : Query) → Door T Q → PlainDay T Q → SteadyDay T Q
steady_of T Q D P = trip_delays_steady T Q D no-delays P.calm P.conditions.no_times_fall
  where
    no-delays : TripDelays T Q
    no-delays =
        record {
          only_skips = λ j h u. absurd (omega (arith, P.conditions.no-delays, D.stop_row_in j h));
          within_cap = λ i h u. absurd (omega (arith, P.conditions.no-delays));
          after_zero = λ i o h u n. absurd (omega (arith, P.conditions.no-delays));
        }

-- DEMAND 3, of the query's answer: by scheduled times
pub demand3 : (T : Tables) (Q : Query) → Door T Q → PlainDay T Q → Demand3 T Q (scheduled T) (query T Q)
demand3 T Q D P = subst (λ (W : TripTimes). Demand3 T Q W (query T Q)) (plain_times T Q P) (steady T Q D (steady_of T Q D P))

-- and of `run_tbr`'s, wherever the Rust's `use_arc_flags` is false
pub demand3_rust : (T : Tables) (Q : Query) → Door T Q → PlainDay T Q → use_arc_flags T Q ≡ false → Demand3 T Q (scheduled T) (run_tbr T Q)
demand3_rust T Q D P e = subst (λ (W : TripTimes). Demand3 T Q W (run_tbr T Q)) (plain_times T Q P) (steady_rust T Q D (steady_of T Q D P) e)

-- beyond the request: the candidates are Pareto-complete
pub pareto : (T : Tables) (Q : Query) → Door T Q → PlainDay T Q → Pareto T Q (scheduled T) (query T Q)
pareto T Q D P = subst (λ (W : TripTimes). Pareto T Q W (query T Q)) (plain_times T Q P) (steady_pareto T Q D (steady_of T Q D P))

pub pareto_rust : (T : Tables) (Q : Query) → Door T Q → PlainDay T Q → use_arc_flags T Q ≡ false → Pareto T Q (scheduled T) (run_tbr T Q)
pareto_rust T Q D P e = subst (λ (W : TripTimes). Pareto T Q W (run_tbr T Q)) (plain_times T Q P) (steady_pareto_rust T Q D (steady_of T Q D P) e)
