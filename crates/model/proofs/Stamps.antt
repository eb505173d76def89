-- Every stop listed in a phase bears the round's stamp; a round without stops does nothing.
use Prim.Native.Nat.{ℕ, zero, suc, ◌<◌}
use mathlib.Core.Path.{◌≡◌, refl, ap, ◌∙◌}
use mathlib.Core.Logic.{⊎_elim}
use mathlib.Core.Bool.{Bool, true, false, cond, not}
use mathlib.Core.List.Memᴰ
use mathlib.Core.List.{List, [], ◌∷◌, ◌++◌, Memᴰ}
use native.Mathlib.Omega.{arith}
use lib.ListN.{length, get_or, set, length-set}
use lib.Dec.{eqb}
use Rattle.model.proofs.Base.{set_cases}
use Rattle.model.proofs.Net.{Net, Plain}
use Rattle.model.proofs.PlainSearch.{Core, Book, St, imp, stops, walks, ride_st, walk_st, rounds}
use Rattle.model.proofs.Stops.{stops_graph}
use Rattle.model.proofs.Improvements.{Steps, stay, step, steps_queue}
use Rattle.model.proofs.Rides.{stops_steps}
use Rattle.model.proofs.Walks.{walks_graph, walks_steps}
use Rattle.model.proofs.Rounds.{Inv}

pub set_there : (l : List ℕ) (i v : ℕ) → i < length l → get_or (set l i v) i 0 ≡ v
set_there [] i v h = absurd (omega arith)
set_there (x ∷ l) zero v h = refl
set_there (x ∷ l) (suc i) v h = set_there l i v (omega arith)

module _ (N : Net) (stamp : ℕ) {J : ℕ → ℕ → Type 0} where
  -- a stamp set stays
  steps_mark : {c c' : Core} → Steps N stamp J c c' → (x : ℕ) → get_or c.SS x 0 ≡ stamp → get_or c'.SS x 0 ≡ stamp
  unfolding imp
  steps_mark stay x e = e
  steps_mark (step {c = c} s v j h r) x e = steps_mark r x (go (not (eqb (get_or c.SS s 0) stamp)))
    where
      go : (b : Bool) → get_or (cond b (set c.SS s stamp) c.SS) x 0 ≡ stamp
      go true = ⊎_elim (λ p. p.1) (λ p. p ∙ e) (set_cases c.SS s stamp x 0)
      go false = e

  steps_long : {c c' : Core} → Steps N stamp J c c' → length c'.SS ≡ length c.SS
  unfolding imp
  steps_long stay = refl
  steps_long (step {c = c} s v j h r) = steps_long r ∙ go (not (eqb (get_or c.SS s 0) stamp))
    where
      go : (b : Bool) → length (cond b (set c.SS s stamp) c.SS) ≡ length c.SS
      go true = length-set c.SS s stamp
      go false = refl

  steps_stamped : ((x v : ℕ) → J x v → x < N.n_s) → {c c' : Core} → length c.SS ≡ N.n_s → Steps N stamp J c c' → ((x : ℕ) → Memᴰ x c.Q → get_or c.SS x 0 ≡ stamp) → (x : ℕ) → Memᴰ x c'.Q → get_or c'.SS x 0 ≡ stamp
  unfolding imp
  steps_stamped I l stay A = A
  steps_stamped I l (step {c = c} s v j h r) A =
      steps_stamped I (long (eqb (get_or c.SS s 0) stamp)) r (go (eqb (get_or c.SS s 0) stamp) refl)
    where
      long : (b : Bool) → length (cond (not b) (set c.SS s stamp) c.SS) ≡ N.n_s
      long true = l
      long false = length-set c.SS s stamp ∙ l

      go : (b : Bool) → eqb (get_or c.SS s 0) stamp ≡ b → (x : ℕ) → Memᴰ x (cond (not b) (c.Q ++ (s ∷ [])) c.Q) → get_or (cond (not b) (set c.SS s stamp) c.SS) x 0 ≡ stamp
      go true e x m = A x m
      go false e x m =
          ⊎_elim
          (λ i. ⊎_elim (λ p. p.1) (λ p. p ∙ A x i) (set_cases c.SS s stamp x 0))
          (λ i. ap (λ (z : ℕ). get_or (set c.SS s stamp) z 0) (Memᴰ.eq_of_singleton i) ∙ set_there c.SS s stamp (omega (arith, l, I s v j)))
          (Memᴰ.append_cases c.Q m)

-- one round
module _ (N : Net) (P : Plain N) (r : ℕ) (s : St) (I : Inv N r s) (long : length s.c.SS ≡ N.n_s) where
  pub In : ℕ → ℕ → Type 0
  In x v = x < N.n_s

  c₀ : Core
  c₀ = record { lab = s.c.lab; E = s.c.E; B = s.c.B; SS = s.c.SS; Q = [] }

  rode : Steps N (suc (suc r)) In c₀ (ride_st N r s).c
  unfolding c₀ In
  rode = stops_steps N P r (suc (suc r)) (ride_st N r s).k.log (λ x v t o p j m w g h l a. P.stop_in t p l) I.inside (λ x h l. h) I.top (λ m i. i) (stops_graph N r (suc (suc r)) s.c.Q _)

  c₁ : Core
  c₁ = let t = ride_st N r s in record { lab = t.c.lab; E = t.c.E; B = t.c.B; SS = t.c.SS; Q = [] }

  footed : Steps N (suc (suc r)) In c₁ (walks N (suc (suc r)) (ride_st N r s).c.Q c₁)
  unfolding c₀ c₁ In
  footed = walks_steps N (suc (suc r)) (λ x v y d j m. P.edge_to x y d m) (λ x m. ⊎_elim (λ i. absurd (Memᴰ.not-nil i)) (λ j. j.1) (steps_queue N (suc (suc r)) rode x m)) (walks_graph N (suc (suc r)) (ride_st N r s).c.Q c₁)

  -- after the walks each stop reached by transit bears the stamp
  pub transit_stamped : (x : ℕ) → Memᴰ x (ride_st N r s).c.Q → get_or (walk_st N r (ride_st N r s)).c.SS x 0 ≡ suc (suc r)
  unfolding c₀ c₁ In
  transit_stamped x m = steps_mark N (suc (suc r)) footed x (steps_stamped N (suc (suc r)) (λ x v h. h) long rode (λ y i. absurd (Memᴰ.not-nil i)) x m)

  pub round_long : length (walk_st N r (ride_st N r s)).c.SS ≡ N.n_s
  unfolding c₀ c₁
  round_long = steps_long N (suc (suc r)) footed ∙ (steps_long N (suc (suc r)) rode ∙ long)

-- rounds without stops
pub idle_rounds : (N : Net) (n r : ℕ) (lab E : List ℕ) (B : ℕ) (SS : List ℕ) (k : Book)
    → let s : St = record { c = record { lab = lab; E = E; B = B; SS = SS; Q = [] }; k = k } in ((rounds N n r s).c ≡ s.c) × ((rounds N n r s).k.log ≡ k.log)
unfolding rounds stops walks
idle_rounds N zero r lab E B SS k = (refl, refl)
idle_rounds N (suc n) r lab E B SS k = idle_rounds N n (suc r) lab E B SS (record { TS = k.TS; TO = k.TO; TD = k.TD; LB = []; log = k.log })
