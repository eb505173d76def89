-- A steady day's tables and query make a net with the laws that the optimality proof needs.
use Prim.Native.Nat.{ℕ, ◌≤◌, ◌<◌}
use mathlib.Core.Path.{◌≡◌, refl, sym, ap, subst, ◌∙◌}
use mathlib.Core.Logic.{◌⊎◌, inl, inr, ⊎_elim}
use mathlib.Core.Bool.{Bool, true, false, ◌&&◌, ◌||◌, not}
use mathlib.Core.List.Memᴰ
use mathlib.Core.List.{List, [], ◌∷◌, map, Memᴰ}
use native.Mathlib.Omega.{arith}
use lib.Dec.{ltb, eqb}
use native.Mathlib.Nat.{eq-or-lt_of_le}
use borrow.Author.Tests.{ltb-true, eqb-true, eqb-false, lt-ltb, le-ltb, not-true}
use Rattle.loops.specs.Count.{one}
use Rattle.departures.specs.declared.DepartureRow.{DepartureRow}
use Rattle.departures.specs.Departures.{frequency_listed, row_departure}
use Rattle.model.specs.Tables.{never, Tables, Origin, Query, is_egress, egress_walk, stops, trips, stop_count, departure, no_pickup, no_drop_off, no_windows, edges_from, edge_to, walk_time, fifo, permitted}
use Rattle.model.specs.Search.{departures_at, mark_at, line_at, delay_of, undelayed, skipped, prunable}
use Rattle.model.specs.Door.{Door, InOrder, EgressRising}
use Rattle.model.specs.Promise.{effective, Boarding, Alighting, CalmDay, SteadyDay}
use Rattle.model.proofs.Base.{split, no_both, or-false, and-true}
use Rattle.model.proofs.Net.{Boards, Plain, Sorted, none, more}
use Rattle.model.proofs.NetOf.{net, pair_of, walk_of, origin_of, count_at}
use Rattle.model.proofs.Lists.{sort_has, keep_only, upto_only}
use Rattle.model.proofs.BuiltLines.{same_count, same_stop, no_later_arrival, same_drop_off}
use Rattle.model.proofs.Delayed.{on_time, stops_there, depart_late, depart_early}

le_of : {a b : ℕ} → a ≡ b → a ≤ b
le_of e = omega (arith, e)

-- what the clamped readings give
module _ (T : Tables) where
  pub deps_at : (x : ℕ) (d : DepartureRow) → Memᴰ d (departures_at T x) → (x < stops T) × Memᴰ d (T.departures x)
  unfolding departures_at
  deps_at x d m = go (ltb x (stops T)) refl m
    where
      go : (b : Bool) → ltb x (stops T) ≡ b → Memᴰ {A = DepartureRow} d (elim b [ true ↦ T.departures x | false ↦ [] ]) → (x < stops T) × Memᴰ d (T.departures x)
      go true e m = (ltb-true _ _ e, m)
      go false e m = absurd (Memᴰ.not-nil m)

  pub at_deps : (x : ℕ) → x < stops T → departures_at T x ≡ T.departures x
  unfolding departures_at
  at_deps x h = ap (λ (b : Bool). elim b as (λ z. List DepartureRow) [ true ↦ T.departures x | false ↦ [] ]) (lt-ltb x (stops T) h)

  out_deps : (x : ℕ) → stops T ≤ x → departures_at T x ≡ []
  unfolding departures_at
  out_deps x h = ap (λ (b : Bool). elim b as (λ z. List DepartureRow) [ true ↦ T.departures x | false ↦ [] ]) (le-ltb x (stops T) h)

  -- a pair of the net is a listed departure
  pub row-of : (x t o : ℕ) → Memᴰ (t, o) (map pair_of (departures_at T x)) → (x < stops T) × Memᴰ (record { trip = t; offset = o }) (T.departures x)
  row-of x t o m =
      let f = Memᴰ.of_map pair_of (departures_at T x) m in
      let g = deps_at x f.0 f.1 in
      (g.0, subst (λ (d : DepartureRow). Memᴰ d (T.departures x)) (ap (λ (p : ℕ × ℕ). record { trip = p.0; offset = p.1 }) f.2) g.1)

  pub of_row : (x t o : ℕ) → x < stops T → Memᴰ (record { trip = t; offset = o }) (T.departures x) → Memᴰ (t, o) (map pair_of (departures_at T x))
  of_row x t o h m = Memᴰ.map pair_of (subst (λ (l : List DepartureRow). Memᴰ (record { trip = t; offset = o }) l) (sym (at_deps x h)) m)

  pub count_at_lem : (t o : ℕ) → o < count_at T t → (t < trips T) × (o < stop_count T t)
  unfolding count_at
  count_at_lem t o h = go (ltb t (trips T)) refl h
    where
      go : (b : Bool) → ltb t (trips T) ≡ b → o < elim b [ true ↦ stop_count T t | false ↦ 0 ] → (t < trips T) × (o < stop_count T t)
      go true e h = (ltb-true _ _ e, h)
      go false e h = absurd (omega arith)

  pub at_count : (t : ℕ) → t < trips T → count_at T t ≡ stop_count T t
  unfolding count_at
  at_count t h = ap (λ (b : Bool). elim b as (λ z. ℕ) [ true ↦ stop_count T t | false ↦ 0 ]) (lt-ltb t (trips T) h)

  out_count : (t : ℕ) → trips T ≤ t → count_at T t ≡ 0
  unfolding count_at
  out_count t h = ap (λ (b : Bool). elim b as (λ z. ℕ) [ true ↦ stop_count T t | false ↦ 0 ]) (le-ltb t (trips T) h)

  at_line : (t : ℕ) → t < trips T → line_at T t ≡ T.line_of t
  unfolding line_at
  at_line t h = ap (λ (b : Bool). elim b as (λ z. ℕ) [ true ↦ T.line_of t | false ↦ never ]) (lt-ltb t (trips T) h)

  out_line : (t : ℕ) → trips T ≤ t → line_at T t ≡ never
  unfolding line_at
  out_line t h = ap (λ (b : Bool). elim b as (λ z. ℕ) [ true ↦ T.line_of t | false ↦ never ]) (le-ltb t (trips T) h)

  -- a list of trips without windows bears no mark
  unlisted : (ds : List DepartureRow) → ((d : DepartureRow) → Memᴰ d ds → no_windows T d.trip ≡ true) → frequency_listed T.timetable ds ≡ false
  unfolding frequency_listed
  unlisted [] h = refl
  unlisted (d ∷ ds) h =
      ap (λ (b : Bool). b || frequency_listed T.timetable ds) (le-ltb 0 (T.timetable.trip d.trip).windows (omega (arith, eqb-true (T.timetable.trip d.trip).windows 0 (h d (Memᴰ.head refl)))))
      ∙ unlisted ds (λ e m. h e (Memᴰ.tail m))

  -- an edge that leaves a stop
  pub edge_in : (x e : ℕ) → Memᴰ e (edges_from T x) → (e < T.timetable.edges) × ((T.timetable.edge e).from ≡ x)
  unfolding edges_from
  edge_in x e m =
      let k = keep_only (λ (e : ℕ). eqb (T.timetable.edge e).from x) _ e m in
      (upto_only T.timetable.edges e k.0, eqb-true _ _ k.1)

-- egress stops
egress_found : (es : List (ℕ × ℕ)) (s d : ℕ) → Memᴰ (s, d) es → is_egress es s ≡ true
unfolding is_egress
egress_found [] s d m = absurd (Memᴰ.not-nil m)
egress_found (e ∷ es) s d m = go (eqb e.0 s) refl (egress_found es s d)
  where
    go : (b : Bool) → eqb e.0 s ≡ b → (Memᴰ (s, d) es → is_egress es s ≡ true) → elim b [ true ↦ true | false ↦ is_egress es s ] ≡ true
    go true f ih = refl
    go false f ih = ⊎_elim (λ q. absurd (eqb-false _ _ f (ap (λ (z : ℕ × ℕ). z.0) (sym q)))) (λ i. ih i) (Memᴰ.cases_cons m)

egress_listed : (es : List (ℕ × ℕ)) (s : ℕ) → is_egress es s ≡ true → Memᴰ (s, egress_walk es s) es
unfolding is_egress egress_walk
egress_listed [] s e = absurd (no_both e refl)
egress_listed (x ∷ es) s e = go (eqb x.0 s) refl e (egress_listed es s)
  where
    go : (b : Bool) → eqb x.0 s ≡ b → elim b [ true ↦ true | false ↦ is_egress es s ] ≡ true → (is_egress es s ≡ true → Memᴰ (s, egress_walk es s) es) → Memᴰ {A = ℕ × ℕ} (s, elim b [ true ↦ x.1 | false ↦ egress_walk es s ]) (x ∷ es)
    go true f e ih = Memᴰ.head (ap (λ (z : ℕ). (z, x.1)) (sym (eqb-true _ _ f)))
    go false f e ih = Memᴰ.tail (ih e)

-- of stops that strictly rise, each has one walk
egress_one : (es : List (ℕ × ℕ)) → EgressRising es → (s d : ℕ) → Memᴰ (s, d) es → egress_walk es s ≡ d
unfolding egress_walk
egress_one [] R s d m = absurd (Memᴰ.not-nil m)
egress_one (x ∷ es) (EgressRising.more r R) s d m = go (eqb x.0 s) refl (egress_one es R s d)
  where
    go : (b : Bool) → eqb x.0 s ≡ b → (Memᴰ (s, d) es → egress_walk es s ≡ d) → elim b [ true ↦ x.1 | false ↦ egress_walk es s ] ≡ d
    go true f ih = ⊎_elim (λ q. ap (λ (z : ℕ × ℕ). z.1) (sym q)) (λ i. absurd (omega (arith, r s d i, eqb-true x.0 s f))) (Memᴰ.cases_cons m)
    go false f ih = ⊎_elim (λ q. absurd (eqb-false _ _ f (ap (λ (z : ℕ × ℕ). z.0) (sym q)))) (λ i. ih i) (Memᴰ.cases_cons m)

pub egress_is : (es : List (ℕ × ℕ)) → EgressRising es → (s d : ℕ) → Memᴰ (s, d) es → (is_egress es s ≡ true) × (egress_walk es s ≡ d)
egress_is es R s d m = (egress_found es s d m, egress_one es R s d m)

-- an edge of the net is an edge of the table
pub record EdgeOf (T : Tables) (Q : Query) (x y d : ℕ) : Type 0 where
  pub edge : ℕ
  pub member : Memᴰ edge (edges_from T x)
  pub to : edge_to T edge ≡ y
  pub walk : walk_time T Q edge ≡ d

pub edge_of : (T : Tables) (Q : Query) (x y d : ℕ) → Memᴰ (y, d) (map (walk_of T Q) (edges_from T x)) → EdgeOf T Q x y d
edge_of T Q x y d m =
    let f = Memᴰ.of_map (walk_of T Q) (edges_from T x) m in
    record { edge = f.0; member = f.1; to = ap (λ (z : ℕ × ℕ). z.0) f.2; walk = ap (λ (z : ℕ × ℕ). z.1) f.2 }

pub of_edge : (T : Tables) (Q : Query) (x e : ℕ) → Memᴰ e (edges_from T x) → Memᴰ (edge_to T e, walk_time T Q e) (map (walk_of T Q) (edges_from T x))
of_edge T Q x e m = Memᴰ.map (walk_of T Q) m

pub record OriginOf (Q : Query) (x d : ℕ) : Type 0 where
  pub walk : Origin
  pub member : Memᴰ walk Q.origins
  pub at : walk.stop ≡ x
  pub lasts : walk.duration ≡ d

pub origin-of : (Q : Query) (x d : ℕ) → Memᴰ (x, d) (map origin_of Q.origins) → OriginOf Q x d
origin-of Q x d m = let f = Memᴰ.of_map origin_of Q.origins m in record { walk = f.0; member = f.1; at = ap (λ (z : ℕ × ℕ). z.0) f.2; lasts = ap (λ (z : ℕ × ℕ). z.1) f.2 }

sorted_of : (T : Tables) (Q : Query) {ds : List DepartureRow} → InOrder T ds → Sorted (net T Q) (map pair_of ds)
sorted_of T Q InOrder.none = none
sorted_of T Q (InOrder.more {d = d} {ds = ds} h r) =
    more (λ u p m. let f = Memᴰ.of_map pair_of ds m in subst (λ (z : ℕ × ℕ). departure T d.trip d.offset ≤ departure T z.0 z.1) f.2 (h f.0 f.1)) (sorted_of T Q r)

module _ (T : Tables) (Q : Query) where
  -- a departure of the net that may be boarded is a boarding, and an offset where it may be left an alighting
  pub boarding-of : (x t o : ℕ) → Memᴰ (t, o) ((net T Q).deps x) → permitted T Q t ≡ true → (net T Q).pick t o ≡ true → (x < stops T) × Boarding T Q (effective T Q) x t o
  boarding-of x t o m ok k =
      let d = row-of T x t o m in
      let u = or-false (no_pickup T t o) (skipped T Q (delay_of Q t) t o) (not-true _ k) in
      let v : no_pickup T t o ≡ false = u.0 in
      (d.0, record { trip = cc; listed = d.1; pickup = cc; served = ap not u.1 })

  pub alighting_of : (t o p : ℕ) → o < p → p < count_at T t → (net T Q).alight t p ≡ true → Alighting T Q (effective T Q) t o p
  alighting_of t o p l h k =
      let u = or-false (no_drop_off T t p) (skipped T Q (delay_of Q t) t p) (not-true _ k) in
      record { later = omega (arith, l); inside = (count_at_lem T t p h).1; drop_off = u.0; served = ap not u.1 }

module _ (T : Tables) (Q : Query) (D : Door T Q) (S : SteadyDay T Q) where
  abbrev P : CalmDay T Q
  P = S.calm

  pub calm_mark : (x : ℕ) → mark_at T x ≡ false
  unfolding mark_at
  calm_mark x = go (ltb x (stops T)) refl
    where
      go : (b : Bool) → ltb x (stops T) ≡ b → (b && eqb (T.mark x) 1) ≡ false
      go true e =
          let h : x < stops T = ltb-true _ _ e in
          ap (λ (m : ℕ). eqb m 1)
          (P.built.marks_built x h
          ∙ ap one (unlisted T (P.listed x) (λ d m. P.conditions.no-windows d.trip (D.listed_trip x d h (subst (λ (l : List DepartureRow). Memᴰ d l) (sym (P.built.departures_built x h)) (sort_has (row_departure T.timetable) (P.listed x) d m))))))
      go false e = refl

  pub calm_trips : (x : ℕ) (d : DepartureRow) → Memᴰ d (departures_at T x) → (d.trip < trips T) × (no_windows T d.trip ≡ true) × (d.offset < stop_count T d.trip)
  calm_trips x d m = let e = deps_at T x d m in let h = D.listed_trip x d e.0 e.1 in (h, P.conditions.no-windows d.trip h, D.listed_offset x d e.0 e.1)

  -- both trips are in the table, or both are past it
  both : (t u : ℕ) → line_at T u ≡ line_at T t → ((t < trips T) × (u < trips T) × (T.line_of u ≡ T.line_of t)) ⊎ ((trips T ≤ t) × (trips T ≤ u))
  both t u e =
      ⊎_elim
      (λ h. ⊎_elim
      (λ l. inl (h, l, sym (at_line T u l) ∙ e ∙ at_line T t h))
      (λ l. absurd (omega (arith, out_line T u l, e, at_line T t h, D.line_in t h, D.few-lines)))
      (split u (trips T)))
      (λ h. ⊎_elim
      (λ l. absurd (omega (arith, out_line T t h, e, at_line T u l, D.line_in u l, D.few-lines)))
      (λ l. inr (h, l))
      (split u (trips T)))
      (split t (trips T))

  both_in : (t u o : ℕ) → line_at T u ≡ line_at T t → o < count_at T t → (t < trips T) × (u < trips T) × (T.line_of u ≡ T.line_of t) × (o < stop_count T t)
  both_in t u o e h =
      let c = count_at_lem T t o h in
      ⊎_elim (λ b. (b.0, b.1, b.2, c.1)) (λ b. absurd (omega (arith, b.0, c.0))) (both t u e)

  -- a trip that prunes has no delay row, and the line of one in the table is FIFO
  flag : (t : ℕ) → t < trips T → prunable T Q (delay_of Q t) t ≡ true → (undelayed (delay_of Q t) ≡ true) × (fifo T (T.line_of t) ≡ true)
  flag t h f = let p = and-true _ _ f in (p.0, subst (λ (z : ℕ). fifo T z ≡ true) (at_line T t h) p.1)

  boarded : (t o : ℕ) (b : Boards (net T Q) t o) → (b.at < stops T) × Boarding T Q (effective T Q) b.at t o
  boarded t o b = boarding-of T Q b.at t o b.listed b.ok b.pick

  -- a trip that prunes arrives on schedule, and sets down where its schedule says
  sets_down : (t o : ℕ) → undelayed (delay_of Q t) ≡ true → not (no_drop_off T t o || skipped T Q (delay_of Q t) t o) ≡ not (no_drop_off T t o || false)
  sets_down t o e = ap (λ (z : Bool). not (no_drop_off T t o || z)) (stops_there T Q (delay_of Q t) t o e)

  pub plain : Plain (net T Q)
  plain =
      record {
        sorted = λ s. ⊎_elim
            (λ h. subst (λ (l : List DepartureRow). Sorted (net T Q) (map pair_of l)) (sym (at_deps T s h)) (sorted_of T Q (D.departures_sorted s h)))
            (λ h. subst (λ (l : List DepartureRow). Sorted (net T Q) (map pair_of l)) (sym (out_deps T s h)) none)
            (split s (stops T));
        late = λ t o b. let c = boarded t o b in depart_late T Q S b.at t o c.0 c.1;
        early = λ t o b. let c = boarded t o b in depart_early T Q S b.at t o c.0 c.1;
        dep_dep = λ t o p l b c. let i = boarded t o b in let j = boarded t p c in
            ⊎_elim (λ e. le_of (ap ((effective T Q).departs t) e)) (λ h. omega (arith, S.conditions.departures b.at c.at t o p i.0 j.0 i.1 j.1 h)) (eq-or-lt_of_le l);
        arr_arr = λ t o p q b z l h j k. let i = boarded t o b in
            ⊎_elim (λ e. le_of (ap ((effective T Q).arrives t) e))
            (λ r. omega (arith, S.conditions.arrivals b.at t o p q i.0 i.1 (alighting_of T Q t o p z (omega (arith, l, h)) j) (alighting_of T Q t o q (omega (arith, z, l)) h k) r)) (eq-or-lt_of_le l);
        dep_arr = λ t o p l h b k. let i = boarded t o b in omega (arith, S.conditions.rides b.at t o p i.0 i.1 (alighting_of T Q t o p l h k));
        listed = λ s t o m. let d = row-of T s t o m in let h = D.listed_trip s _ d.0 d.1 in omega (arith, at_count T t h, D.listed_offset s _ d.0 d.1);
        fifo_len = λ t u e. ⊎_elim (λ b. omega (arith, at_count T t b.0, at_count T u b.1, same_count T Q P t u b.0 b.1 b.2)) (λ b. out_count T u b.1 ∙ sym (out_count T t b.0)) (both t u e);
        fifo_stop = λ t u o e h. let b = both_in t u o e h in same_stop T Q P t u b.0 b.1 b.2 o b.3;
        fifo_arr = λ t u o f g e q h.
            let b = both_in t u o e h in
            let k = flag t b.0 f in
            omega (arith, on_time T Q (delay_of Q t) t o k.0, on_time T Q (delay_of Q u) u o (flag u b.1 g).0, no_later_arrival T Q P t u b.0 b.1 b.2 k.1 (omega arith) o b.3);
        fifo_alight = λ t u o f g e h.
            let b = both_in t u o e h in
            let k = flag t b.0 f in
            sets_down u o (flag u b.1 g).0 ∙ (ap (λ (z : Bool). not (z || false)) (same_drop_off T Q P t u b.0 b.1 b.2 k.1 o b.3) ∙ sym (sets_down t o k.0));
        deps_in = λ x t o m. (row-of T x t o m).0;
        edge_in = λ x y d m. let e = edge_of T Q x y d m in let i = edge_in T x e.edge e.member in subst (λ (z : ℕ). z < stops T) i.1 (D.edge_from e.edge i.0);
        stop_in = λ t p h. let c = count_at_lem T t p h in D.stop_in t p c.0 c.1;
        edge_to = λ x y d m. let e = edge_of T Q x y d m in subst (λ (z : ℕ). z < stops T) e.to (D.edge_to e.edge (edge_in T x e.edge e.member).0);
        orig_in = λ x d m. let a = origin-of Q x d m in subst (λ (z : ℕ). z < stops T) a.at (D.origin_in a.walk a.member);
        eg_list = egress_listed Q.egress;
        eg_in = D.egress_in;
        edge_edge = λ a b c d e m n h.
            let p = edge_of T Q a b d m in
            let q = edge_of T Q b c e n in
            let g = P.conditions.edges_complete a p.edge q.edge p.member (subst (λ (z : ℕ). Memᴰ q.edge (edges_from T z)) (sym p.to) q.member) (λ z. h (sym q.to ∙ z)) in
            (walk_time T Q g.0, subst (λ (z : ℕ). Memᴰ (z, walk_time T Q g.0) (map (walk_of T Q) (edges_from T a))) (g.2 ∙ q.to) (of_edge T Q a g.0 g.1), omega (arith, g.3, p.walk, q.walk));
        orig_edge = λ b c d e m n.
            let p = origin-of Q b d m in
            let q = edge_of T Q b c e n in
            let g = P.conditions.origins_complete p.walk q.edge p.member (subst (λ (z : ℕ). Memᴰ q.edge (edges_from T z)) (sym p.at) q.member) in
            (g.0.duration, subst (λ (z : ℕ). Memᴰ (z, g.0.duration) (map origin_of Q.origins)) (g.2 ∙ q.to) (Memᴰ.map origin_of g.1), omega (arith, g.3, p.lasts, q.walk));
      }
