-- One trip of a line tried, and the trips of a line one after the other. Assumes nothing.
use Prim.Native.Nat.{ℕ, suc, ◌+◌, ◌-◌, ◌<◌, ◌≤◌}
use mathlib.Core.Path.{◌≡◌, refl, ap, ap₂, sym, ◌∙◌}
use mathlib.Core.Bool.{Bool, true, false, cond, not, ◌&&◌, ◌||◌}
use Rattle.std.specs.Prelude.{Option, None, Some}
use native.Mathlib.Omega.{arith}
use native.Mathlib.Nat.{add-zero}
use lib.Dec.{ltb, leb}
use Rattle.frequency.specs.declared.BoardedRun.{BoardedRun}
use Rattle.model.specs.Tables.{Tables, Query, trips, stop_count, departure, no_pickup, no_windows, usable}
use Rattle.model.specs.Search.{delay_of, skipped, margin_of, board_at, resolve_in}
use Rattle.target_resolving.specs.declared.Tried.{Tried}
use Rattle.target_resolving.specs.declared.Tried.TheVariants.{Next, Stop, Take}
use Rattle.target_resolving.specs.Resolving.{choose, weighed, tried, go_on}

-- one trip more of a line
module _ (T : Tables) (Q : Query) (is_fifo : Bool) (o after best : ℕ) (trip : ℕ → ℕ) (k p : ℕ) where
  abbrev later : Option (ℕ × BoardedRun)
  later = resolve_in T Q is_fifo o after best trip k (suc p)

  weighed_on : (f : Bool) (b : Option BoardedRun)
      → elim b [ None ↦ resolve_in T Q f o after best trip k (suc p) | Some x ↦ elim (ltb x.departure best) [ true ↦ Some (trip p, x) | false ↦ elim f [ true ↦ None | false ↦ resolve_in T Q false o after best trip k (suc p) ] ] ]
      ≡ go_on (weighed f best b) (trip p) (resolve_in T Q f o after best trip k (suc p))
  weighed_on f None = refl
  weighed_on f (Some x) = go f (ltb x.departure best)
    where
      go : (f l : Bool) → elim l [ true ↦ Some (trip p, x) | false ↦ elim f [ true ↦ None | false ↦ resolve_in T Q false o after best trip k (suc p) ] ] ≡ go_on (cond l (Take x) (cond f Stop Next)) (trip p) (resolve_in T Q f o after best trip k (suc p))
      go f true = refl
      go true false = refl
      go false false = refl

  pub resolve_turn : resolve_in T Q is_fifo o after best trip (suc k) p ≡ go_on (tried T Q is_fifo o after best (trip p)) (trip p) later
  unfolding tried resolve_in
  resolve_turn =
      go (ltb (trip p) (trips T) && ltb o (stop_count T (trip p))) ((is_fifo && leb (best + margin_of T Q) (departure T (trip p) o)) && no_windows T (trip p))
      ((not (usable T Q (trip p)) || no_pickup T (trip p) o) || skipped T Q (delay_of Q (trip p)) (trip p) o)
    where
      go : (a b d : Bool) → elim a [
        | false ↦ later
        | true ↦ elim b [
          | true ↦ None
          | false ↦ elim d [
            | true ↦ later
            | false ↦ elim (board_at T Q (delay_of Q (trip p)) (trip p) o after) [
              | None ↦ later
              | Some x ↦ elim (ltb x.departure best) [ true ↦ Some (trip p, x) | false ↦ elim is_fifo [ true ↦ None | false ↦ resolve_in T Q false o after best trip k (suc p) ] ]
            ]
          ]
        ]
      ]
          ≡ go_on (choose a b d (weighed is_fifo best (board_at T Q (delay_of Q (trip p)) (trip p) o after))) (trip p) later
      go false b d = refl
      go true true d = refl
      go true false true = refl
      go true false false = weighed_on is_fifo (board_at T Q (delay_of Q (trip p)) (trip p) o after)

-- the places that are left, from place p + j on
module _ (T : Tables) (Q : Query) (f : Bool) (o after best : ℕ) (trip : ℕ → ℕ) (k p : ℕ) where
  abbrev pub left : ℕ → Option (ℕ × BoardedRun)
  left j = resolve_in T Q f o after best trip (k - j) (p + j)

  pub left_first : resolve_in T Q f o after best trip k p ≡ left 0
  left_first =
      let z : k ≡ k - 0 = omega arith in
      ap₂ (λ (a b : ℕ). resolve_in T Q f o after best trip a b) z (sym (add-zero p))

  pub left_step : (j x : ℕ) (r : Tried) → j < k → trip (p + j) ≡ x → r ≡ tried T Q f o after best x → left j ≡ go_on r x (left (j + 1))
  left_step j x r h ex er =
      let e : k - j ≡ suc (k - (j + 1)) = omega arith in
      let n : suc (p + j) ≡ p + (j + 1) = omega arith in
      ap (λ (m : ℕ). resolve_in T Q f o after best trip m (p + j)) e ∙ resolve_turn T Q f o after best trip (k - (j + 1)) (p + j)
      ∙ ap₂ (λ (y m : ℕ). go_on (tried T Q f o after best y) y (resolve_in T Q f o after best trip (k - (j + 1)) m)) ex n
      ∙ ap (λ (z : Tried). go_on z x (left (j + 1))) (sym er)

  pub left_end : (j : ℕ) → k ≤ j → None ≡ left j
  unfolding resolve_in
  left_end j h = let e : k - j ≡ 0 = omega arith in rw e refl
