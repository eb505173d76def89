-- Runs of improvements, each with its reason: what holds of every phase alike.
use Prim.Native.Nat.{ℕ, suc, ◌+◌, ◌*◌, ◌-◌, ◌≤◌, ◌<◌}
use mathlib.Core.Path.{◌≡◌, refl, sym, ap, subst, ◌∙◌}
use mathlib.Core.Logic.{◌⊎◌, inl, inr, ⊎_elim}
use mathlib.Core.Bool.{Bool, true, false, cond, ◌&&◌, not}
use mathlib.Core.List.Memᴰ
use mathlib.Core.List.{List, [], ◌∷◌, ◌++◌, Memᴰ}
use native.Mathlib.Omega.{arith}
use lib.ListN.{get_or, set}
use lib.Dec.{ltb, eqb}
use borrow.Author.Tests.{ltb-true, eqb-true}
use Rattle.model.proofs.Base.{set_cases, set_hit, and-true}
use Rattle.model.proofs.Net.{Net}
use Rattle.model.proofs.PlainSearch.{Core, at, best, imp, relax}
use Rattle.model.proofs.Coverage.{Le, Le-refl, Le-trans, imp_le}

-- the stops whose earliest changed are in the queue, or in the list T
pub record Pend (stamp : ℕ) (T : List ℕ) (c₀ c : Core) : Type 0 where
  pub moved : (x : ℕ) → (at c x ≡ at c₀ x) ⊎ (Memᴰ x c.Q ⊎ Memᴰ x T)
  pub marked : (x : ℕ) → get_or c.SS x 0 ≡ stamp → Memᴰ x c.Q ⊎ Memᴰ x T
  pub bound : (x : ℕ) → get_or c.SS x 0 ≤ stamp

-- the best total is some egress stop's, or none is known
pub data Att (N : Net) (c : Core) : Type 0 where
  att_none : N.MAX ≤ c.B → Att N c
  att_stop : (s : ℕ) → N.is_eg s ≡ true → at c s + N.eg s ≤ c.B → Att N c

pub att_on : {N : Net} {c c' : Core} → ((x : ℕ) → at c' x ≤ at c x) → c.B ≤ c'.B → Att N c → Att N c'
att_on l h (att_none m) = att_none (omega arith)
att_on l h (att_stop y i m) = att_stop y i (omega (arith, l y))

module _ (N : Net) (stamp : ℕ) where
  pub data Steps (J : ℕ → ℕ → Type 0) : Core → Core → Type 0 where
    stay : {c : Core} → Steps J c c
    step : {c c' : Core} (s v : ℕ) → J s v → v < at c s → Steps J (imp N stamp s v c) c' → Steps J c c'

  imp_at : (s v : ℕ) (c : Core) (x : ℕ) → ((x ≡ s) × (at (imp N stamp s v c) x ≡ v)) ⊎ (at (imp N stamp s v c) x ≡ at c x)
  unfolding imp
  imp_at s v c x = set_cases c.E s v x 0

  imp_pend : (T : List ℕ) (c₀ : Core) (s v : ℕ) (c : Core) → Pend stamp T c₀ c → Pend stamp T c₀ (imp N stamp s v c)
  unfolding imp
  imp_pend T c₀ s v c P = go (eqb (get_or c.SS s 0) stamp) refl
    where
      go : (x : Bool) → eqb (get_or c.SS s 0) stamp ≡ x → Pend stamp T c₀ (record { lab = set c.lab (13 * s + (stamp - 1)) (suc v); E = set c.E s v; B = best N s v c.B; SS = cond (not x) (set c.SS s stamp) c.SS; Q = cond (not x) (c.Q ++ (s ∷ [])) c.Q })
      go true e =
          record {
            moved = λ x. ⊎_elim (λ p. inr (subst (λ (y : ℕ). Memᴰ y c.Q ⊎ Memᴰ y T) (sym p.0) (P.marked s (eqb-true _ _ e)))) (λ p. ⊎_elim (λ q. inl (p ∙ q)) (λ q. inr q) (P.moved x)) (set_cases c.E s v x 0);
            marked = P.marked;
            bound = P.bound;
          }
      go false e =
          record {
            moved = λ x. ⊎_elim (λ p. inr (inl (Memᴰ.append_right c.Q (Memᴰ.head p.0)))) (λ p. ⊎_elim (λ q. inl (p ∙ q)) (λ q. inr (⊎_elim (λ m. inl (Memᴰ.append_left _ m)) (λ m. inr m) q)) (P.moved x)) (set_cases c.E s v x 0);
            marked = λ x h. ⊎_elim (λ p. inl (Memᴰ.append_right c.Q (Memᴰ.head p.0))) (λ p. ⊎_elim (λ m. inl (Memᴰ.append_left _ m)) (λ m. inr m) (P.marked x (sym p ∙ h))) (set_cases c.SS s stamp x 0);
            bound = λ x. ⊎_elim (λ p. omega (arith, p.1)) (λ p. omega (arith, p, P.bound x)) (set_cases c.SS s stamp x 0);
          }

  pub best_att : (s v : ℕ) (c c' : Core) → at c' s ≤ v → ((x : ℕ) → at c' x ≤ at c x) → c'.B ≡ best N s v c.B → Att N c → Att N c'
  unfolding best
  best_att s v c c' p l e A = go (N.is_eg s && ltb (v + N.eg s) c.B) refl A
    where
      go : (x : Bool) → (N.is_eg s && ltb (v + N.eg s) c.B) ≡ x → Att N c → Att N c'
      go true h a = att_stop s (and-true _ _ h).0 (let q : c'.B ≡ v + N.eg s = e ∙ ap (λ (x : Bool). cond x (v + N.eg s) c.B) h in omega arith)
      go false h (att_none m) = att_none (let q : c'.B ≡ c.B = e ∙ ap (λ (x : Bool). cond x (v + N.eg s) c.B) h in omega arith)
      go false h (att_stop y i m) = att_stop y i (let q : c'.B ≡ c.B = e ∙ ap (λ (x : Bool). cond x (v + N.eg s) c.B) h in omega (arith, l y))

  module _ {J : ℕ → ℕ → Type 0} where
    pub steps_trans : {a b c : Core} → Steps J a b → Steps J b c → Steps J a c
    steps_trans stay q = q
    steps_trans (step s v j h r) q = step s v j h (steps_trans r q)

    pub relax_steps : (s v : ℕ) (c : Core) → J s v → Steps J c (relax N stamp s v c)
    unfolding relax
    relax_steps s v c j = go (ltb v (at c s)) refl
      where
        go : (x : Bool) → ltb v (at c s) ≡ x → Steps J c (cond x (imp N stamp s v c) c)
        go true h = step s v j (ltb-true _ _ h) stay
        go false h = stay

    pub steps_le : {c c' : Core} → Steps J c c' → Le c' c
    steps_le stay = Le-refl _
    steps_le (step {c = c} s v j h r) = Le-trans (steps_le r) (imp_le N stamp s v c (omega arith))

    -- an earliest that changed has its reason
    pub steps_changed : {c c' : Core} → Steps J c c' → (x : ℕ) → (at c' x ≡ at c x) ⊎ J x (at c' x)
    steps_changed stay x = inl refl
    steps_changed (step {c = c} {c' = c'} s v j h r) x =
        ⊎_elim
        (λ e. ⊎_elim
        (λ p. inr (subst (λ (y : ℕ). J x y) (sym (e ∙ p.1)) (subst (λ (y : ℕ). J y v) (sym p.0) j)))
        (λ p. inl (e ∙ p))
        (imp_at s v c x))
        (λ i. inr i)
        (steps_changed r x)

    pub steps_pend : (T : List ℕ) (c₀ : Core) {c c' : Core} → Steps J c c' → Pend stamp T c₀ c → Pend stamp T c₀ c'
    steps_pend T c₀ stay P = P
    steps_pend T c₀ (step {c = c} s v j h r) P = steps_pend T c₀ r (imp_pend T c₀ s v c P)

    pub steps_att : {c c' : Core} → Steps J c c' → Att N c → Att N c'
    unfolding imp
    steps_att stay A = A
    steps_att (step {c = c} s v j h r) A = steps_att r (best_att s v c (imp N stamp s v c) (set_hit c.E s v) (imp_le N stamp s v c (omega arith)).e refl A)

    -- what is queued was queued before, or has its reason
    pub steps_queue : {c c' : Core} → Steps J c c' → (x : ℕ) → Memᴰ x c'.Q → Memᴰ x c.Q ⊎ ((v : ℕ) × J x v)
    unfolding imp
    steps_queue stay x m = inl m
    steps_queue (step {c = c} s v j h r) x m =
        ⊎_elim
        (λ i. from (not (eqb (get_or c.SS s 0) stamp)) i)
        (λ i. inr i)
        (steps_queue r x m)
      where
        from : (b : Bool) → Memᴰ x (cond b (c.Q ++ (s ∷ [])) c.Q) → Memᴰ x c.Q ⊎ ((v : ℕ) × J x v)
        from true i = ⊎_elim (λ p. inl p) (λ p. inr (v, subst (λ (y : ℕ). J y v) (sym (Memᴰ.eq_of_singleton p)) j)) (Memᴰ.append_cases c.Q i)
        from false i = inl i

    -- what is queued anew has fallen
    pub steps_fell : {c c' : Core} → Steps J c c' → (x : ℕ) → Memᴰ x c'.Q → Memᴰ x c.Q ⊎ (at c' x < at c x)
    unfolding imp
    steps_fell stay x m = inl m
    steps_fell (step {c = c} {c' = c'} s v j h r) x m =
        ⊎_elim
        (λ i. from (not (eqb (get_or c.SS s 0) stamp)) i)
        (λ (i : at c' x < at (imp N stamp s v c) x). inr (let z = (imp_le N stamp s v c (omega arith)).e x in omega arith))
        (steps_fell r x m)
      where
        from : (b : Bool) → Memᴰ x (cond b (c.Q ++ (s ∷ [])) c.Q) → Memᴰ x c.Q ⊎ (at c' x < at c x)
        from true i = ⊎_elim (λ p. inl p) (λ p. inr (subst (λ (y : ℕ). at c' y < at c y) (sym (Memᴰ.eq_of_singleton p)) (let z = (steps_le r).e s in let w = set_hit c.E s v in omega arith))) (Memᴰ.append_cases c.Q i)
        from false i = inl i
