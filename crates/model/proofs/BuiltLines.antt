-- What a day's lines give, since they are as built: trips of one line have the same stops; in a FIFO line a lower position is
-- nowhere later, and the codes are equal.
use Prim.Native.Nat.{ℕ, ◌≤◌, ◌<◌}
use mathlib.Core.Path.{◌≡◌, sym, ap, subst, ◌∙◌}
use mathlib.Core.Logic.{⊎_elim}
use mathlib.Core.Bool.{true}
use native.Mathlib.Omega.{arith}
use lib.Dec.{ltb, eqb}
use Rattle.line_numbers.specs.Lines.{line_of}
use Rattle.line_numbers.proofs.Laws.{line_counts, line_stops}
use Rattle.line_layout.specs.Layout.{fifo_line, position_in}
use Rattle.line_layout.specs.Claims.{NotLater}
use Rattle.built_lines.proofs.Laws.{built_fifo}
use Rattle.model.specs.Tables.{Tables, Query, trips, stop_count, stop_at, arrival, no_drop_off, position, fifo}
use Rattle.model.specs.Promise.{CalmDay}
use Rattle.model.proofs.Base.{split, and-true}

module _ (T : Tables) (Q : Query) (P : CalmDay T Q) where
  lines_same : (t u : ℕ) → t < trips T → u < trips T → T.line_of u ≡ T.line_of t → line_of T.timetable u ≡ line_of T.timetable t
  lines_same t u h l e = sym (P.built.line_built u l) ∙ e ∙ P.built.line_built t h

  pub same_count : (t u : ℕ) → t < trips T → u < trips T → T.line_of u ≡ T.line_of t → stop_count T u ≡ stop_count T t
  same_count t u h l e = line_counts T.timetable u t (lines_same t u h l e)

  pub same_stop : (t u : ℕ) → t < trips T → u < trips T → T.line_of u ≡ T.line_of t → (o : ℕ) → o < stop_count T t → stop_at T u o ≡ stop_at T t o
  same_stop t u h l e o i = line_stops T.timetable u t o (lines_same t u h l e) (omega (arith, same_count t u h l e))

  not_later : (t u : ℕ) → t < trips T → u < trips T → T.line_of u ≡ T.line_of t → fifo T (T.line_of t) ≡ true → position T u ≤ position T t → NotLater T.timetable u t
  unfolding fifo
  not_later t u h l e f q =
      built_fifo T.timetable T.line P.built.lists_built u t l h (lines_same t u h l e)
      (subst (λ (z : ℕ). fifo_line T.timetable (T.line z) ≡ true) (sym e ∙ P.built.line_built u l) (and-true (ltb (T.line_of t) T.lines) (fifo_line T.timetable (T.line (T.line_of t))) f).1)
      (subst (λ (n : ℕ). position_in T.line n u ≤ position_in T.line n t) P.built.lines_built q)

  pub no_later_arrival : (t u : ℕ) → t < trips T → u < trips T → T.line_of u ≡ T.line_of t → fifo T (T.line_of t) ≡ true → position T u ≤ position T t → (o : ℕ) → o < stop_count T t → arrival T u o ≤ arrival T t o
  no_later_arrival t u h l e f q o i = (not_later t u h l e f q).arrival o (omega (arith, same_count t u h l e))

  pub same_drop_off : (t u : ℕ) → t < trips T → u < trips T → T.line_of u ≡ T.line_of t → fifo T (T.line_of t) ≡ true → (o : ℕ) → o < stop_count T t → no_drop_off T u o ≡ no_drop_off T t o
  same_drop_off t u h l e f o i =
      ⊎_elim
      (λ (q : position T u < position T t). ap (λ (c : ℕ). eqb c 1) ((not_later t u h l e f (omega arith)).drop_off o (omega (arith, same_count t u h l e))))
      (λ (q : position T t ≤ position T u). ap (λ (c : ℕ). eqb c 1) (sym ((not_later u t l h (sym e) (subst (λ (z : ℕ). fifo T z ≡ true) (sym e) f) q).drop_off o i)))
      (split (position T u) (position T t))
