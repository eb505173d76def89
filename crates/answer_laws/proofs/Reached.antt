-- Reached lists fit their areas: in round 0 no more stops than origins; later no stop twice, so no more than there are stops.
use Prim.Native.Nat.{ℕ, zero, suc, ◌+◌, ◌≤◌, ◌<◌, zero-le}
use mathlib.Core.Path.{◌≡◌, refl, sym, ◌∙◌, ap, subst}
use mathlib.Core.Logic.{◌⊎◌, inl, inr, ⊎_elim}
use mathlib.Core.Bool.{Bool, true, false, cond, ◌&&◌, ◌||◌, not}
use mathlib.Core.List.Memᴰ
use mathlib.Core.List.{List, [], ◌∷◌, ◌++◌, append_assoc, append-nil, Memᴰ}
use native.Mathlib.Nat.{le_refl, eq-or-lt_of_le}
use native.Mathlib.Omega.{arith}
use lib.ListN.{length, get_or, set, length-append, length-set, replicate, length-replicate}
use lib.Seq.{get_or-set_same, get_or-set_other}
use lib.Dec.{ltb, eqb}
use borrow.Author.Tests.{eqb-true, eqb-false, eq-eqb, ne_eqb}
use Rattle.loops.specs.Count.{one, count}
use Rattle.loops.proofs.Count.{count_le_n, count_ext}
use Rattle.model.specs.Tables.{Tables, Origin, Query, stops, no_windows}
use Rattle.model.specs.Door.{Door}
use Rattle.model.specs.Search.{Arrivals, State, at, improve, enqueue, ride_phase, stamped, walk_phase, idle, rounds, set_out, access, new_arrivals, begin}
use Rattle.answer_laws.specs.Queue.{round_of}
use Rattle.answer_laws.proofs.Moves.{Moves, stay, arrive, queue, pushed, taken, left_out, rounds_keep, Queues, rides, walks_to, walks, round_queues, begin_queues}

-- no number twice
pub data Once : List ℕ → Type 0 where
  none : Once []
  more : {x : ℕ} {xs : List ℕ} → (Memᴰ x xs → ⊥) → Once xs → Once (x ∷ xs)

once_left : (xs ys : List ℕ) → Once (xs ++ ys) → Once xs
once_left [] ys o = none
once_left (x ∷ xs) ys (more n o) = more (λ m. n (Memᴰ.append_left ys m)) (once_left xs ys o)

once_right : (xs ys : List ℕ) → Once (xs ++ ys) → Once ys
once_right [] ys o = o
once_right (x ∷ xs) ys (more n o) = once_right xs ys o

once_apart : (xs ys : List ℕ) → Once (xs ++ ys) → (x : ℕ) → Memᴰ x xs → Memᴰ x ys → ⊥
once_apart [] ys o x m i = Memᴰ.not-nil m
once_apart (y ∷ xs) ys (more n o) x m i =
    ⊎_elim (λ e. n (Memᴰ.append_right xs (subst (λ (z : ℕ). Memᴰ z ys) e i))) (λ j. once_apart xs ys o x j i) (Memᴰ.cases_cons m)

once_join : (xs ys : List ℕ) → Once xs → Once ys → ((x : ℕ) → Memᴰ x xs → Memᴰ x ys → ⊥) → Once (xs ++ ys)
once_join [] ys o p a = p
once_join (x ∷ xs) ys (more n o) p a =
    more (λ m. ⊎_elim (λ i. n i) (λ i. a x (Memᴰ.head refl) i) (Memᴰ.append_cases xs m))
    (once_join xs ys o p (λ y m i. a y (Memᴰ.tail m) i))

once_swap : (xs ys : List ℕ) → Once (xs ++ ys) → Once (ys ++ xs)
once_swap xs ys o = once_join ys xs (once_right xs ys o) (once_left xs ys o) (λ x m i. once_apart xs ys o x i m)

-- one number more passes
count_more : (p q : ℕ → Bool) (i n : ℕ) → i < n → p i ≡ false → q i ≡ true → ((k : ℕ) → (k ≡ i → ⊥) → q k ≡ p k) → count q n ≡ suc (count p n)
unfolding count
count_more p q i zero l f t h = absurd (omega arith)
count_more p q i (suc n) l f t h = ⊎_elim (λ e. here e) (λ m. later m (λ j. count_more p q i n j f t h)) (eq-or-lt_of_le l)
  where
    here : suc i ≡ suc n → count q n + one (q n) ≡ suc (count p n + one (p n))
    here e =
        let z : i ≡ n = omega arith in
        omega (
          arith,
          count_ext q p n (λ k m. h k (λ (y : k ≡ i). omega arith)),
          ap one (subst (λ (k : ℕ). q k ≡ true) z t),
          ap one
              (subst (λ (k : ℕ). p k ≡ false) z f),
        )

    later : suc i < suc n → (i < n → count q n ≡ suc (count p n)) → count q n + one (q n) ≡ suc (count p n + one (p n))
    later m r = omega (arith, r (omega arith), ap one (h n (λ (y : n ≡ i). omega arith)))

count_none : (p : ℕ → Bool) (n : ℕ) → ((k : ℕ) → p k ≡ false) → count p n ≡ 0
unfolding count
count_none p zero h = refl
count_none p (suc n) h = omega (arith, count_none p n h, ap one (h n))

set_most : (l : List ℕ) (i v b : ℕ) → ((x : ℕ) → get_or l x 0 ≤ b) → v ≤ b → (x : ℕ) → get_or (set l i v) x 0 ≤ b
set_most [] i v b h u x = h x
set_most (y ∷ l) zero v b h u zero = u
set_most (y ∷ l) zero v b h u (suc x) = h (suc x)
set_most (y ∷ l) (suc i) v b h u zero = h 0
set_most (y ∷ l) (suc i) v b h u (suc x) = set_most l i v b (λ z. h (suc z)) u x

set_stays : (l : List ℕ) (i v x : ℕ) → get_or l x 0 ≡ v → get_or (set l i v) x 0 ≡ v
set_stays [] i v x e = e
set_stays (y ∷ l) zero v zero e = refl
set_stays (y ∷ l) zero v (suc x) e = e
set_stays (y ∷ l) (suc i) v zero e = e
set_stays (y ∷ l) (suc i) v (suc x) e = set_stays l i v x e

module _ (T : Tables) where
  -- how many stops bear a stamp
  abbrev pub bearing : ℕ → List ℕ → ℕ
  bearing stamp ss = count (λ x. eqb (get_or ss x 0) stamp) (stops T)

  -- THE STOPS REACHED in a phase (xs), with those of the phases before it in this round: each is a stop of the table, bears the
  -- round's stamp and stands once, and they are as many as bear it; no stamp is higher
  pub record Listed (stamp : ℕ) (before ss xs : List ℕ) : Type 0 where
    pub long : length ss ≡ stops T
    pub most : (x : ℕ) → get_or ss x 0 ≤ stamp
    pub inside : (x : ℕ) → Memᴰ x (before ++ xs) → x < stops T
    pub marked : (x : ℕ) → Memᴰ x (before ++ xs) → get_or ss x 0 ≡ stamp
    pub once : Once (before ++ xs)
    pub many : length before + length xs ≡ bearing stamp ss

  listed_start : (stamp : ℕ) (ss : List ℕ) → length ss ≡ stops T → ((x : ℕ) → get_or ss x 0 < stamp) → Listed stamp [] ss []
  listed_start stamp ss l h =
      record {
        long = l;
        most = λ x. omega (arith, h x);
        inside = λ x m. absurd (Memᴰ.not-nil m);
        marked = λ x m. absurd (Memᴰ.not-nil m);
        once = none;
        many =
            omega (
              arith,
              count_none (λ x. eqb (get_or ss x 0) stamp) (stops T)
                  (λ k. ne_eqb (get_or ss k 0) stamp (λ (e : get_or ss k 0 ≡ stamp). omega (arith, h k))),
            );
      }

  -- the next phase of the round
  listed_next : {stamp : ℕ} {ss xs : List ℕ} → Listed stamp [] ss xs → Listed stamp xs ss []
  listed_next {xs = xs} L =
      record {
        long = L.long;
        most = L.most;
        inside = λ x m. L.inside x (rw append-nil at m);
        marked = λ x m. L.marked x (rw append-nil at m);
        once = rw append-nil L.once;
        many = omega (arith, L.many);
      }

  -- one more, newly stamped
  listed_more : {stamp : ℕ} {before ss xs : List ℕ} (s : ℕ) → Listed stamp before ss xs → s < stops T → (get_or ss s 0 ≡ stamp → ⊥)
      → Listed stamp before (set ss s stamp) (xs ++ (s ∷ []))
  listed_more {stamp} {before} {ss} {xs} s L h n =
      record {
        long = length-set ss s stamp ∙ L.long;
        most = set_most ss s stamp stamp L.most (le_refl stamp);
        inside = λ x m. ⊎_elim (λ i. L.inside x i) (λ (e : x ≡ s). omega arith) (cases x m);
        marked =
            λ x m. ⊎_elim (λ i. set_stays ss s stamp x (L.marked x i)) (λ e. subst (λ (z : ℕ). get_or (set ss s stamp) z 0 ≡ stamp) (sym e) there)
            (cases x m);
        once =
            subst Once (append_assoc before xs (s ∷ [])) (once_join (before ++ xs) (s ∷ []) L.once (more (λ m. Memᴰ.not-nil m) none)
            (λ x m i. n (subst (λ (z : ℕ). get_or ss z 0 ≡ stamp) (Memᴰ.eq_of_singleton i) (L.marked x m))));
        many =
            omega (
              arith,
              L.many,
              length-append xs (s ∷ []),
              count_more (λ x. eqb (get_or ss x 0) stamp) (λ x. eqb (get_or (set ss s stamp) x 0) stamp) s
                  (stops T) h (ne_eqb (get_or ss s 0) stamp n) (eq-eqb (get_or (set ss s stamp) s 0) stamp there)
                  (λ k e. ap (λ (z : ℕ). eqb z stamp) (get_or-set_other ss s k stamp 0 e)),
            );
      }
    where
      there : get_or (set ss s stamp) s 0 ≡ stamp
      there = get_or-set_same ss s stamp 0 (omega (arith, L.long))

      cases : (x : ℕ) → Memᴰ x (before ++ (xs ++ (s ∷ []))) → Memᴰ x (before ++ xs) ⊎ (x ≡ s)
      cases x m =
          ⊎_elim (λ i. inl i) (λ i. inr (Memᴰ.eq_of_singleton i))
          (Memᴰ.append_cases (before ++ xs) (subst (λ (l : List ℕ). Memᴰ x l) (sym (append_assoc before xs (s ∷ []))) m))

  -- AFTER EACH IMPROVEMENT the lists of a round together are no longer than there are stops
  pub listed_fits : {stamp : ℕ} {before ss xs : List ℕ} → Listed stamp before ss xs → length before + length xs ≤ stops T
  listed_fits {stamp} {ss = ss} L = omega (arith, L.many, count_le_n (λ x. eqb (get_or ss x 0) stamp) (stops T))

  -- ALL MOVES keep a list
  pub moves_listed : (Q : Query) {R : ℕ → Type 0} {flagged : Bool} {stamp : ℕ} {before : List ℕ} {a b : Arrivals}
      → Moves T Q R (λ x. x < stops T) flagged stamp a b
      → Listed stamp before a.stop_stamp a.reached → Listed stamp before b.stop_stamp b.reached
  unfolding improve enqueue
  moves_listed Q stay L = L
  moves_listed Q {stamp = stamp} {before = before} (arrive {a = a} s v l h r) L = moves_listed Q r (go (eqb (get_or a.stop_stamp s 0) stamp) refl)
    where
      go : (b : Bool) → eqb (get_or a.stop_stamp s 0) stamp ≡ b
          → Listed stamp before (cond (not b) (set a.stop_stamp s stamp) a.stop_stamp) (cond (not b) (a.reached ++ (s ∷ [])) a.reached)
      go true e = L
      go false e = listed_more s L h (eqb-false (get_or a.stop_stamp s 0) stamp e)
  moves_listed Q {stamp = stamp} {before = before} (queue {a = a} t o s x f h i r) L =
      moves_listed Q r (go (not (no_windows T t) || ltb o (get_or a.seg_reach t 0)))
    where
      go : (b : Bool)
          → let n : Arrivals = elim b [ false ↦ a | true ↦ pushed T Q (no_windows T t) t o s x a ] in Listed stamp before n.stop_stamp n.reached
      go true = L
      go false = L

  -- A REACHED LIST THAT FITS: stops of the table, none twice, so no more than there are
  pub record Neat (xs : List ℕ) : Type 0 where
    pub inside : (x : ℕ) → Memᴰ x xs → x < stops T
    pub once : Once xs
    pub fits : length xs ≤ stops T

  neat_empty : (xs : List ℕ) → length xs ≡ 0 → Neat xs
  neat_empty [] e = record { inside = λ x m. absurd (Memᴰ.not-nil m); once = none; fits = zero-le }
  neat_empty (x ∷ xs) e = absurd (omega arith)

  -- BEFORE ROUND r: every segment is of a trip of the table, each stop has a stamp, and none is the round's or a later one's
  pub record Before (r : ℕ) (s : State) : Type 0 where
    pub queues : Queues T s
    pub long : length s.arrivals.stop_stamp ≡ stops T
    pub stamps : (x : ℕ) → get_or s.arrivals.stop_stamp x 0 < suc (suc r)

-- those that bear the stamp, where all do
stamped_all : (T : Tables) (Q : Query) (stamp : ℕ) (ss xs : List ℕ) → ((x : ℕ) → Memᴰ x xs → get_or ss x 0 ≡ stamp) → stamped T Q stamp ss xs ≡ xs
unfolding stamped
stamped_all T Q stamp ss [] h = refl
stamped_all T Q stamp ss (x ∷ xs) h =
    go (eqb (get_or ss x 0) stamp) (eq-eqb (get_or ss x 0) stamp (h x (Memᴰ.head refl)))
    (stamped_all T Q stamp ss xs (λ y m. h y (Memᴰ.tail m)))
  where
    go : (b : Bool) → b ≡ true → stamped T Q stamp ss xs ≡ xs
        → elim b as (λ z. List ℕ) [ true ↦ x ∷ stamped T Q stamp ss xs | false ↦ stamped T Q stamp ss xs ] ≡ x ∷ xs
    go true e r = ap (λ (l : List ℕ). x ∷ l) r
    go false e r = absurd (let z : ◌≡◌ {A = ℕ} 0 1 = cc in omega arith)

-- ROUND 0. Access lists no more stops than there are origins
access_few : (T : Tables) (Q : Query) (os : List Origin) (a : Arrivals) → length (access T Q os a).reached ≤ length a.reached + length os
unfolding access set_out
access_few T Q [] a = omega arith
access_few T Q (o ∷ os) a = omega (arith, access_few T Q os (set_out T Q o a), go (ltb (Q.start + o.duration) (at a o.stop)))
  where
    go : (b : Bool) → length (elim b as (λ z. Arrivals) [ true ↦ taken T Q o a | false ↦ left_out T Q o a ]).reached ≤ suc (length a.reached)
    go true = omega (arith, length-append a.reached (o.stop ∷ []))
    go false = omega arith

access_long : (T : Tables) (Q : Query) (os : List Origin) (a : Arrivals) → length (access T Q os a).stop_stamp ≡ length a.stop_stamp
unfolding access set_out
access_long T Q [] a = refl
access_long T Q (o ∷ os) a = access_long T Q os (set_out T Q o a) ∙ go (ltb (Q.start + o.duration) (at a o.stop))
  where
    go : (b : Bool) → length (elim b as (λ z. Arrivals) [ true ↦ taken T Q o a | false ↦ left_out T Q o a ]).stop_stamp ≡ length a.stop_stamp
    go true = length-set a.stop_stamp o.stop 1
    go false = refl

access_stamps : (T : Tables) (Q : Query) (os : List Origin) (a : Arrivals) → ((x : ℕ) → get_or a.stop_stamp x 0 ≤ 1) → (x : ℕ)
    → get_or (access T Q os a).stop_stamp x 0 ≤ 1
unfolding access set_out
access_stamps T Q [] a h = h
access_stamps T Q (o ∷ os) a h = access_stamps T Q os (set_out T Q o a) (go (ltb (Q.start + o.duration) (at a o.stop)))
  where
    go : (b : Bool) (x : ℕ) → get_or (elim b as (λ z. Arrivals) [ true ↦ taken T Q o a | false ↦ left_out T Q o a ]).stop_stamp x 0 ≤ 1
    go true = set_most a.stop_stamp o.stop 1 1 h (le_refl 1)
    go false = h

new_stamps : (n x : ℕ) → get_or (replicate n 0) x 0 ≤ 1
new_stamps zero x = zero-le
new_stamps (suc n) zero = zero-le
new_stamps (suc n) (suc x) = new_stamps n x

-- the stops of round 0 are no more than the origins
pub first_few : (T : Tables) (Q : Query) → length (begin T Q).arrivals.reached ≤ length Q.origins
first_few T Q = omega (arith, access_few T Q Q.origins (new_arrivals T Q))

-- so it is before round 0
pub begin_before : (T : Tables) (Q : Query) → Before T 0 (begin T Q)
begin_before T Q =
    record {
      queues = begin_queues T Q;
      long = access_long T Q Q.origins (new_arrivals T Q) ∙ length-replicate (stops T) 0;
      stamps = λ x. omega (arith, access_stamps T Q Q.origins (new_arrivals T Q) (new_stamps (stops T)) x);
    }

-- LATER ROUNDS
module _ (T : Tables) (Q : Query) (D : Door T Q) (flagged : Bool) where
  -- the stops reached in a ride phase
  pub ride_listed : (r : ℕ) (s : State) → Before T r s → let a : Arrivals = (ride_phase T Q flagged r s).arrivals in
      Listed T (suc (suc r)) [] a.stop_stamp a.reached
  ride_listed r s W =
      moves_listed T Q (rides T Q D flagged r s W.queues).moves (listed_start T (suc (suc r)) s.arrivals.stop_stamp W.long W.stamps)

  -- and after them those reached on foot
  pub walk_listed : (r : ℕ) (s : State) → Before T r s → let u : State = ride_phase T Q flagged r s in
      Listed T (suc (suc r)) u.arrivals.reached (walks_to T Q flagged r u).stop_stamp (walks_to T Q flagged r u).reached
  walk_listed r s W = moves_listed T Q (walks T Q D flagged r (ride_phase T Q flagged r s)) (listed_next T (ride_listed r s W))

  -- and a round leads from before it to before the next
  pub round_before : (r : ℕ) (s : State) → Before T r s → Before T (suc r) (round_of T Q flagged r s)
  unfolding walk_phase
  round_before r s W =
      let L = walk_listed r s W in
      record { queues = round_queues T Q D flagged r s W.queues; long = L.long; stamps = λ x. omega (arith, L.most x) }

  -- A ROUND leaves a list that fits
  pub round_neat : (r : ℕ) (s : State) → Before T r s → Neat T (round_of T Q flagged r s).arrivals.reached
  unfolding walk_phase
  round_neat r s W = go flagged
    where
      xs : List ℕ
      xs = (ride_phase T Q flagged r s).arrivals.reached

      w : Arrivals
      w = walks_to T Q flagged r (ride_phase T Q flagged r s)

      L : Listed T (suc (suc r)) xs w.stop_stamp w.reached
      L = walk_listed r s W

      all : Neat T (w.reached ++ xs)
      all =
          record {
            inside =
                λ x m. ⊎_elim (λ i. L.inside x (Memᴰ.append_right xs i)) (λ i. L.inside x (Memᴰ.append_left w.reached i))
                (Memᴰ.append_cases w.reached m);
            once = once_swap xs w.reached L.once;
            fits = omega (arith, length-append w.reached xs, listed_fits T L);
          }

      go : (b : Bool) → Neat T (elim b [ true ↦ w.reached | false ↦ w.reached ++ stamped T Q (suc (suc r)) w.stop_stamp xs ])
      go true =
          record {
            inside = λ x m. L.inside x (Memᴰ.append_right xs m);
            once = once_right xs w.reached L.once;
            fits = omega (arith, listed_fits T L);
          }
      go false =
          subst (λ (l : List ℕ). Neat T (w.reached ++ l))
          (sym (stamped_all T Q (suc (suc r)) w.stop_stamp xs (λ x m. L.marked x (Memᴰ.append_left w.reached m)))) all

  -- a round later, the list fits too
  record Later (r : ℕ) (s : State) : Type 0 where
    before : Before T r s
    neat : Neat T s.arrivals.reached

  later : (r : ℕ) (s : State) → Before T r s → Later (suc r) (round_of T Q flagged r s)
  later r s W = record { before = round_before r s W; neat = round_neat r s W }

  onward : (n r : ℕ) (s : State) → Later r s → Neat T (rounds T Q flagged n r s).arrivals.reached
  onward n r s l = (rounds_keep T Q flagged Later (λ k u m. later k u m.before) n r s l).1.neat

  -- AT THE START OF EVERY ROUND BUT THE FIRST, and at the run's end, the list fits
  pub reached_neat : (n : ℕ) → Neat T (rounds T Q flagged (suc n) 0 (begin T Q)).arrivals.reached
  unfolding rounds idle
  reached_neat n = go (eqb (length xs) 0) (not flagged || eqb (length (begin T Q).arrivals.seg_queue) 0) refl
    where
      xs : List ℕ
      xs = (begin T Q).arrivals.reached

      go : (b c : Bool) → eqb (length xs) 0 ≡ b
          → Neat T (elim (b && c) as
          (λ z. State) [ true ↦ begin T Q | false ↦ rounds T Q flagged n 1 (round_of T Q flagged 0 (begin T Q)) ]).arrivals.reached
      go true true e = neat_empty T xs (eqb-true (length xs) 0 e)
      go true false e = onward n 1 (round_of T Q flagged 0 (begin T Q)) (later 0 (begin T Q) (begin_before T Q))
      go false c e = onward n 1 (round_of T Q flagged 0 (begin T Q)) (later 0 (begin T Q) (begin_before T Q))
