-- The scan of departures may begin at the first that is not too early.
use Prim.Native.Nat.{ℕ, ◌+◌, ◌≤◌, ◌<◌}
use mathlib.Core.Path.{◌≡◌, refl, ap, ◌∙◌}
use mathlib.Core.Bool.{Bool, true, false, ◌||◌, ◌&&◌, not}
use mathlib.Core.List.{List, [], ◌∷◌, ◌++◌, Memᴰ}
use native.Mathlib.Omega.{arith}
use lib.Dec.{ltb, leb}
use borrow.Author.Tests.{lt-ltb, lt-leb}
use Rattle.model.proofs.Base.{no_both}
use Rattle.model.proofs.Net.{Net}
use Rattle.model.proofs.PlainSearch.{St, departures, skips, passed, ride, board, blocked}

module _ (N : Net) (round stamp after : ℕ) where
  or_right : (a : Bool) → (a || true) ≡ true
  or_right true = refl
  or_right false = refl

  pub early_skips : (t o : ℕ) (s : St) → N.dep t o < after → skips N stamp after t o s ≡ true
  unfolding skips
  early_skips t o s h = rw (lt-ltb (N.dep t o) after h, or_right (not (N.ok_trip t) || (N.prunes t && blocked N t o s.k.LB) || not (N.pick t o))) refl

  pub pick_skips : (t o : ℕ) (s : St) → N.pick t o ≡ false → skips N stamp after t o s ≡ true
  unfolding skips
  pick_skips t o s h = go (not (N.ok_trip t) || (N.prunes t && blocked N t o s.k.LB)) (N.pick t o) h (ltb (N.dep t o) after) (leb s.c.B (N.dep t o) || passed N stamp t o s.k)
    where
      go : (a b : Bool) → b ≡ false → (c d : Bool) → (((a || not b) || c) || d) ≡ true
      go true b e c d = refl
      go false true e c d = absurd (no_both refl e)
      go false false e c d = refl

  pub trip-skips : (t o : ℕ) (s : St) → N.ok_trip t ≡ false → skips N stamp after t o s ≡ true
  unfolding skips
  trip-skips t o s h = ap (λ (b : Bool). not b || (N.prunes t && blocked N t o s.k.LB) || not (N.pick t o) || ltb (N.dep t o) after || (leb s.c.B (N.dep t o) || passed N stamp t o s.k)) h

  -- of departures that are listed too early, and passed over in any state
  pub early : (pre ds : List (ℕ × ℕ)) (s : St) → after ≤ s.c.B
      → ((d : ℕ × ℕ) → Memᴰ d pre → (N.sch d.0 d.1 < after) × ((s : St) → skips N stamp after d.0 d.1 s ≡ true))
      → departures N round stamp after (pre ++ ds) s ≡ departures N round stamp after ds s
  unfolding departures
  early [] ds s b h = refl
  early (d ∷ pre) ds s b h =
      let l = h d (Memᴰ.head refl) in
      ap (λ (x : Bool). elim x as (λ y. St) [ true ↦ s | false ↦ elim (skips N stamp after d.0 d.1 s) [ true ↦ departures N round stamp after (pre ++ ds) s | false ↦ departures N round stamp after (pre ++ ds) (record { c = ride N stamp d.0 d.1 s.c; k = board N round stamp d.0 d.1 s.k }) ] ]) (lt-leb (s.c.B + N.margin) (N.sch d.0 d.1) (omega (arith, l.0)))
      ∙ ap (λ (x : Bool). elim x as (λ y. St) [ true ↦ departures N round stamp after (pre ++ ds) s | false ↦ departures N round stamp after (pre ++ ds) (record { c = ride N stamp d.0 d.1 s.c; k = board N round stamp d.0 d.1 s.k }) ]) (l.1 s)
      ∙ early pre ds s b (λ e m. h e (Memᴰ.tail m))
