-- The access walks: what holds before the first round.
use Prim.Native.Nat.{ℕ, zero, suc, ◌+◌, ◌*◌, ◌≤◌, ◌<◌, zero-le}
use mathlib.Core.Path.{◌≡◌, refl, sym, ap, subst, ◌∙◌}
use mathlib.Core.Logic.{◌⊎◌, inl, inr, ⊎_elim}
use mathlib.Core.Bool.{Bool, true, false}
use mathlib.Core.List.Memᴰ
use mathlib.Core.List.{List, [], ◌∷◌, ◌++◌, Memᴰ}
use native.Mathlib.Nat.{le_refl, le_trans}
use native.Mathlib.Omega.{arith}
use lib.ListN.{get_or, set, replicate, get_or-replicate}
use lib.Dec.{ltb}
use borrow.Author.Tests.{ltb-true, ltb-false}
use Rattle.model.proofs.Base.{set_cases, set_le, set_hit}
use Rattle.model.proofs.Net.{Net, Plain}
use Rattle.model.proofs.PlainSearch.{Core, at, best, change, arrive, access, begin}
use Rattle.model.proofs.Coverage.{Le, Le-refl, Le-trans, Cov, by_at, by_best, best_le}
use Rattle.model.proofs.Departures.{ridden_best}
use Rattle.model.proofs.Improvements.{Att, att_none, best_att}
use Rattle.model.proofs.Rounds.{Reach, j_access, Inv}

-- what one access walk, or a run of them, does
pub record Acc (N : Net) (os : List (ℕ × ℕ)) (c c' : Core) : Type 0 where
  pub low : Le c' c
  pub hit : (s d : ℕ) → Memᴰ (s, d) os → at c' s ≤ N.start + d
  pub changed : (x : ℕ) → (at c' x ≡ at c x) ⊎ ((d : ℕ) × (Memᴰ (x, d) os) × (at c' x ≡ N.start + d))
  pub queued : (x : ℕ) → (at c' x ≡ at c x) ⊎ Memᴰ x c'.Q
  pub keeps : (x : ℕ) → Memᴰ x c.Q → Memᴰ x c'.Q
  pub only : (x : ℕ) → Memᴰ x c'.Q → Memᴰ x c.Q ⊎ ((d : ℕ) × Memᴰ (x, d) os)
  pub marks : ((x : ℕ) → get_or c.SS x 0 ≤ 1) → (x : ℕ) → get_or c'.SS x 0 ≤ 1
  pub att : Att N c → Att N c'

module _ (N : Net) where
  arrive_acc : (o : ℕ × ℕ) (c : Core) → Acc N (o ∷ []) c (arrive N o c)
  unfolding arrive
  arrive_acc o c = go (ltb (N.start + o.1) (at c o.0)) refl
    where
      v : ℕ
      v = N.start + o.1

      yes' : Core
      yes' = record { lab = set c.lab (13 * o.0 + 0) (suc (N.start + o.1)); E = set c.E o.0 (N.start + o.1); B = best N o.0 (N.start + o.1) c.B; SS = set c.SS o.0 1; Q = c.Q ++ (o.0 ∷ []) }

      no' : Core
      no' = record { lab = c.lab; E = c.E; B = best N o.0 (N.start + o.1) c.B; SS = c.SS; Q = c.Q }

      go : (b : Bool) → ltb (N.start + o.1) (at c o.0) ≡ b → Acc N (o ∷ []) c (elim b [ true ↦ yes' | false ↦ no' ])
      go true e =
          let l : N.start + o.1 < at c o.0 = ltb-true _ _ e in
          record {
            low = record { e = λ x. set_le c.E o.0 (N.start + o.1) x (omega arith); b = best_le N o.0 (N.start + o.1) c.B };
            hit = λ s d m. let q = Memᴰ.eq_of_singleton m in subst (λ (z : ℕ × ℕ). at yes' z.0 ≤ N.start + z.1) (sym q) (set_hit c.E o.0 (N.start + o.1));
            changed = λ x. ⊎_elim (λ p. inr (o.1, Memᴰ.head (ap (λ (z : ℕ). (z, o.1)) p.0), p.1)) (λ p. inl p) (set_cases c.E o.0 (N.start + o.1) x 0);
            queued = λ x. ⊎_elim (λ p. inr (Memᴰ.append_right c.Q (Memᴰ.head p.0))) (λ p. inl p) (set_cases c.E o.0 (N.start + o.1) x 0);
            keeps = λ x m. Memᴰ.append_left _ m;
            only = λ x m. ⊎_elim (λ i. inl i) (λ i. inr (o.1, Memᴰ.head (ap (λ (z : ℕ). (z, o.1)) (Memᴰ.eq_of_singleton i)))) (Memᴰ.append_cases c.Q m);
            marks = λ h x. ⊎_elim (λ p. omega (arith, p.1)) (λ p. omega (arith, p, h x)) (set_cases c.SS o.0 1 x 0);
            att = λ a. best_att N 1 o.0 (N.start + o.1) c yes' (set_hit c.E o.0 (N.start + o.1)) (λ x. set_le c.E o.0 (N.start + o.1) x (omega arith)) refl a;
          }
      go false e =
          let l : at c o.0 ≤ N.start + o.1 = ltb-false _ _ e in
          record {
            low = record { e = λ x. le_refl _; b = best_le N o.0 (N.start + o.1) c.B };
            hit = λ s d m. subst (λ (z : ℕ × ℕ). at c z.0 ≤ N.start + z.1) (sym (Memᴰ.eq_of_singleton m)) l;
            changed = λ x. inl refl;
            queued = λ x. inl refl;
            keeps = λ x m. m;
            only = λ x m. inl m;
            marks = λ h x. h x;
            att = λ a. best_att N 1 o.0 (N.start + o.1) c no' l (λ x. le_refl _) refl a;
          }

  access_acc : (os : List (ℕ × ℕ)) (c : Core) → Acc N os c (access N os c)
  unfolding access
  access_acc [] c = record { low = Le-refl c; hit = λ s d m. absurd (Memᴰ.not-nil m); changed = λ x. inl refl; queued = λ x. inl refl; keeps = λ x m. m; only = λ x m. inl m; marks = λ h x. h x; att = λ a. a }
  access_acc (o ∷ os) c = join (arrive_acc o c) (access_acc os (arrive N o c))
    where
      join : {m c' : Core} → Acc N (o ∷ []) c m → Acc N os m c' → Acc N (o ∷ os) c c'
      join {m} {c'} p q =
          record {
            low = Le-trans q.low p.low;
            hit = λ s d i. ⊎_elim (λ e. le_trans (q.low.e s) (p.hit s d (Memᴰ.head e))) (λ i'. q.hit s d i') (Memᴰ.cases_cons i);
            changed = λ x. ⊎_elim
                (λ e. ⊎_elim (λ f. inl (e ∙ f)) (λ f. inr (f.0, ⊎_elim (λ g. Memᴰ.head g) (λ g. absurd (Memᴰ.not-nil g)) (Memᴰ.cases_cons f.1), e ∙ f.2)) (p.changed x))
                (λ f. inr (f.0, Memᴰ.tail f.1, f.2))
                (q.changed x);
            queued = λ x. ⊎_elim (λ e. ⊎_elim (λ f. inl (e ∙ f)) (λ f. inr (q.keeps x f)) (p.queued x)) (λ f. inr f) (q.queued x);
            keeps = λ x i. q.keeps x (p.keeps x i);
            only = λ x i. ⊎_elim
                (λ i'. ⊎_elim (λ j. inl j) (λ j. inr (j.0, ⊎_elim (λ g. Memᴰ.head g) (λ g. absurd (Memᴰ.not-nil g)) (Memᴰ.cases_cons j.1))) (p.only x i'))
                (λ j. inr (j.0, Memᴰ.tail j.1))
                (q.only x i);
            marks = λ h x. q.marks (p.marks h) x;
            att = λ a. q.att (p.att a);
          }

  replicate_le : (n x v b : ℕ) → v ≤ b → get_or (replicate n v) x 0 ≤ b
  replicate_le zero x v b h = zero-le
  replicate_le (suc n) zero v b h = h
  replicate_le (suc n) (suc x) v b h = replicate_le n x v b h

  pub begin_acc : (trips : ℕ) → Acc N N.orig (record { lab = replicate (N.n_s * 13) 0; E = replicate N.n_s N.MAX; B = N.MAX; SS = replicate N.n_s 0; Q = [] }) (begin N trips).c
  begin_acc trips = access_acc N.orig _

  pub begin_inv : Plain N → (trips : ℕ) → Inv N 0 (begin N trips)
  unfolding change
  begin_inv P trips =
      record {
        walked = λ x. record {
          edge = λ y d m. ⊎_elim
              (λ e. by_best (omega (arith, A.low.b, e, get_or-replicate N.n_s x N.MAX 0 (P.edge_in x y d m))))
              (λ f. let g = P.orig_edge x y f.0 d f.1 m in by_at (omega (arith, A.hit y g.0 g.1, g.2, f.2)))
              (A.changed x);
        };
        pend = λ x. ⊎_elim
            (λ e. inr (record { ride = λ t o m k p h. ridden_best P (record { at = x; listed = m; ok = k; pick = p }) (omega (arith, A.low.b, e, get_or-replicate N.n_s x N.MAX 0 (P.deps_in x t o m))) }))
            (λ m. inl m)
            (A.queued x);
        even = record { to = refl; td = refl };
        trips = λ t. replicate_le trips t 0 1 (omega arith);
        marks = A.marks (λ x. replicate_le N.n_s x 0 1 (omega arith));
        inside = λ x m. ⊎_elim (λ i. absurd (Memᴰ.not-nil i)) (λ j. P.orig_in x j.0 j.1) (A.only x m);
        top = A.low.b;
        att = A.att (att_none (le_refl _));
        reach = λ b m x v h j. first b m x v j h;
      }
    where
      A : Acc N N.orig (record { lab = replicate (N.n_s * 13) 0; E = replicate N.n_s N.MAX; B = N.MAX; SS = replicate N.n_s 0; Q = [] }) (begin N trips).c
      A = begin_acc trips

      first : (b : Bool) (m x v : ℕ) → Reach N b m x v → m ≤ 0 → Cov (begin N trips).c x v
      first b m x v (j_access i) h = by_at (A.hit _ _ i)
      first b m x v (Reach.j_ride t o p g i k q d l z a) h = absurd (omega arith)
      first b m x v (Reach.j_walk {x = y} {v = w} g i) h = absurd (none true m y w g refl h)
        where
          none : (b : Bool) (m x v : ℕ) → Reach N b m x v → b ≡ true → m ≤ 0 → ⊥
          none b m x v (j_access i) e h = let w : ◌≡◌ {A = ℕ} 0 1 = cc in omega arith
          none b m x v (Reach.j_ride t o p g i k q d l z a) e h = omega arith
          none b m x v (Reach.j_walk g i) e h = let w : ◌≡◌ {A = ℕ} 0 1 = cc in omega arith
