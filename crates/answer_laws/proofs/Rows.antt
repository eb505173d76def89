-- A stop's label rows and its earliest arrival: rows are filled in order of falling arrivals, and the highest filled one is the earliest.
use Prim.Native.Nat.{ℕ, suc, ◌*◌, ◌-◌, ◌≤◌, ◌<◌}
use mathlib.Core.Path.{◌≡◌, refl, sym, ap, subst, ◌∙◌}
use mathlib.Core.Logic.{◌⊎◌, inl, inr, ⊎_elim}
use mathlib.Core.Bool.{Bool, true, false}
use mathlib.Core.List.{List}
use native.Mathlib.Nat.{le_trans}
use native.Mathlib.Omega.{arith}
use lib.ListN.{get_or}
use lib.Dec.{eqb}
use borrow.Author.Tests.{eqb-true, eqb-false}
use Rattle.label.specs.declared.Label.{Label}
use Rattle.label.specs.declared.Label.TheVariants.{Empty}
use Rattle.label.specs.Table.{record_of}
use Rattle.model.specs.Tables.{Tables, Query, never, stops}
use Rattle.model.specs.Search.{Arrivals, at, reached_by, new_arrivals}
use Rattle.model.specs.Door.{Door}
use Rattle.answer_laws.specs.Lawful.{LabelFits, empty}
use Rattle.answer_laws.proofs.Stores.{set_cases, set_there, lt_get_d, get_d_replicate, get_d_replicate_in}
use Rattle.answer_laws.proofs.Steps.{Why, Improved, Kept, improved_le}
use Rattle.answer_laws.proofs.Labels.{label_at, Lengths, lengths_kept, why_fits, why_stamp}

-- a stop's earliest arrival is none, and no row is filled; or it is that of a row below
pub data Known (below : ℕ) (a : Arrivals) (s : ℕ) : Type 0 where
  unreached : at a s ≡ never → ((row : ℕ) → row < 13 → label_at a s row ≡ Empty) → Known below a s
  reached : (row : ℕ) → row < below → reached_by (label_at a s row) ≡ suc (at a s) → Known below a s

-- an empty label has no arrival
pub filled : {l : Label} {v : ℕ} → l ≡ Empty → reached_by l ≡ suc v → ⊥
filled {v = v} e f = let z : 0 ≡ suc v = sym (ap reached_by e) ∙ f in omega arith

module _ (T : Tables) (Q : Query) where
  -- the labels, with rows filled only below a stamp
  pub record Rows (stamp : ℕ) (a : Arrivals) : Type 0 where
    pub long : Lengths T Q a
    pub fits : (s row : ℕ) → s < stops T → row < 13 → LabelFits T Q s row (label_at a s row)
    pub above : (s row : ℕ) → s < stops T → stamp ≤ row → row < 13 → label_at a s row ≡ Empty
    pub least : (s row v : ℕ) → s < stops T → row < 13 → reached_by (label_at a s row) ≡ suc v → at a s ≤ v
    pub falls : (s i j u v : ℕ) → s < stops T → i < j → j < 13 → reached_by (label_at a s i) ≡ suc u → reached_by (label_at a s j) ≡ suc v → v < u
    pub known : (s : ℕ) → s < stops T → Known stamp a s

  -- an improvement keeps it
  module _ (D : Door T Q) (stamp s v : ℕ) (l : Label) (a b : Arrivals) (w : Why T Q stamp s v l) (e : reached_by l ≡ suc v) (h : v < at a s)
      (i : Improved T Q stamp s v l a b) (top : stamp ≤ 13) (R : Rows stamp a) where
    one : 1 ≤ stamp
    one = why_stamp T Q D w

    inside : s < stops T
    inside = omega (arith, lt_get_d a.earliest s v h, R.long.earliest)

    at_here : at b s ≡ v
    at_here = ap (λ (z : List ℕ). get_or z s 0) i.earliest ∙ set_there a.earliest s v 0 (lt_get_d a.earliest s v h)

    at_cases : (x : ℕ) → (x ≡ s) ⊎ (at b x ≡ at a x)
    at_cases x = ⊎_elim (λ p. inl p.0) (λ p. inr (ap (λ (z : List ℕ). get_or z x 0) i.earliest ∙ p)) (set_cases a.earliest s v x 0)

    here : label_at b s (stamp - 1) ≡ l
    here =
        ap (λ (z : List Label). get_or z (record_of s (stamp - 1)) Empty) i.labels
        ∙ set_there a.labels (record_of s (stamp - 1)) l Empty (omega (arith, R.long.labels, inside, one))

    -- the label of a row after it: the new one, there, or the old one
    read : (x row : ℕ) → row < 13 → ((x ≡ s) × (row ≡ stamp - 1) × (label_at b x row ≡ l)) ⊎ (label_at b x row ≡ label_at a x row)
    read x row u =
        ⊎_elim
        (λ p. inl (omega (arith, p.0, one), omega (arith, p.0, one), ap (λ (z : List Label). get_or z (record_of x row) Empty) i.labels ∙ p.1))
        (λ p. inr (ap (λ (z : List Label). get_or z (record_of x row) Empty) i.labels ∙ p))
        (set_cases a.labels (record_of s (stamp - 1)) l (record_of x row) Empty)

    fits_on : (x row : ℕ) → x < stops T → row < 13 → LabelFits T Q x row (label_at b x row)
    fits_on x row u n =
        ⊎_elim
        (λ p. rw (p.2, p.0, p.1) (why_fits T Q D w))
        (λ p. rw p (R.fits x row u n))
        (read x row n)

    above_on : (x row : ℕ) → x < stops T → stamp ≤ row → row < 13 → label_at b x row ≡ Empty
    above_on x row u m n = ⊎_elim (λ p. absurd (omega (arith, p.1, one))) (λ p. p ∙ R.above x row u m n) (read x row n)

    least_on : (x row u : ℕ) → x < stops T → row < 13 → reached_by (label_at b x row) ≡ suc u → at b x ≤ u
    least_on x row u m n f =
        ⊎_elim
        (λ p. let z : suc v ≡ suc u = sym e ∙ sym (ap reached_by p.2) ∙ f in let y : at b x ≡ v = ap (at b) p.0 ∙ at_here in omega arith)
        (λ p. le_trans (improved_le T Q i h x) (R.least x row u m n (sym (ap reached_by p) ∙ f)))
        (read x row n)

    falls_on : (x j k u y : ℕ) → x < stops T → j < k → k < 13 → reached_by (label_at b x j) ≡ suc u → reached_by (label_at b x k) ≡ suc y → y < u
    falls_on x j k u y m c n f g =
        ⊎_elim
        (λ p. ⊎_elim
        (λ q. absurd (omega (arith, p.1, q.1)))
        (λ q. absurd (filled (R.above x k m (omega (arith, p.1)) n) (sym (ap reached_by q) ∙ g)))
        (read x k n))
        (λ p. ⊎_elim
        (λ q. let z : suc v ≡ suc y = sym e ∙ sym (ap reached_by q.2) ∙ g in
        let o : at a x ≤ u = R.least x j u m (omega arith) (sym (ap reached_by p) ∙ f) in
        let r : at a x ≡ at a s = ap (at a) q.0 in
        omega arith)
        (λ q. R.falls x j k u y m c n (sym (ap reached_by p) ∙ f) (sym (ap reached_by q) ∙ g))
        (read x k n))
        (read x j (omega arith))

    known_on : (x : ℕ) → x < stops T → Known stamp b x
    known_on x m = go (eqb x s) refl (R.known x m)
      where
        old : (x ≡ s → ⊥) → (row : ℕ) → row < 13 → label_at b x row ≡ label_at a x row
        old k row n = ⊎_elim (λ p. absurd (k p.0)) (λ p. p) (read x row n)

        same : (x ≡ s → ⊥) → at b x ≡ at a x
        same k = ⊎_elim (λ p. absurd (k p)) (λ p. p) (at_cases x)

        go : (t : Bool) → eqb x s ≡ t → Known stamp a x → Known stamp b x
        go true q k =
            subst (Known stamp b) (sym (eqb-true x s q)) (reached (stamp - 1) (omega (arith, one)) (ap reached_by here ∙ e ∙ ap suc (sym at_here)))
        go false q (unreached n f) = let k = eqb-false x s q in unreached (same k ∙ n) (λ row c. old k row c ∙ f row c)
        go false q (reached row c f) = let k = eqb-false x s q in reached row c (ap reached_by (old k row (omega arith)) ∙ f ∙ ap suc (sym (same k)))

    pub rows_on : Rows stamp b
    rows_on =
        record {
          long = (lengths_kept T Q).improves w e h i R.long;
          fits = fits_on;
          above = above_on;
          least = least_on;
          falls = falls_on;
          known = known_on;
        }

  -- what leaves labels and earliest arrivals alone keeps it
  rows_same : (stamp : ℕ) (a b : Arrivals) → b.labels ≡ a.labels → b.earliest ≡ a.earliest → Lengths T Q b → Rows stamp a → Rows stamp b
  rows_same stamp a b p q L R =
      record {
        long = L;
        fits = rw p R.fits;
        above = rw p R.above;
        least = rw (p, q) R.least;
        falls = rw p R.falls;
        known = λ s u. go s (R.known s u);
      }
    where
      go : (s : ℕ) → Known stamp a s → Known stamp b s
      go s (unreached n f) = unreached (rw q n) (rw p f)
      go s (reached row c f) = reached row c (rw (p, q) f)

  -- and so does a higher stamp
  pub rows_up : (stamp top : ℕ) (a : Arrivals) → stamp ≤ top → Rows stamp a → Rows top a
  rows_up stamp top a h R =
      record {
        long = R.long;
        fits = R.fits;
        above = λ s row u n. R.above s row u (omega arith);
        least = R.least;
        falls = R.falls;
        known = λ s u. go s (R.known s u);
      }
    where
      go : (s : ℕ) → Known stamp a s → Known top a s
      go s (unreached n f) = unreached n f
      go s (reached row c f) = reached row (omega arith) f

  rows_new : Rows 1 (new_arrivals T Q)
  rows_new =
      record {
        long = (lengths_kept T Q).new;
        fits = λ s row u n. rw (none s row) empty;
        above = λ s row u m n. none s row;
        least = λ s row v u n f. absurd (filled (none s row) f);
        falls = λ s i j u v m c n f g. absurd (filled (none s i) f);
        known = λ s u. unreached (get_d_replicate_in (stops T) s never 0 u) (λ row c. none s row);
      }
    where
      none : (s row : ℕ) → label_at (new_arrivals T Q) s row ≡ Empty
      none s row = get_d_replicate (stops T * 13) (record_of s row) Empty

  -- A RUN KEEPS IT, up to 12 rounds
  pub rows_kept : Door T Q → Kept T Q (λ stamp a. stamp ≤ 13 → Rows stamp a)
  rows_kept D =
      record {
        new = λ u. rows_new;
        improves = λ {stamp} {s} {v} {l} {a} {b} w e h i p u. rows_on D stamp s v l a b w e h i u (p u);
        hears = λ {stamp} {s} {v} {l} {a} {b} w h p u. rows_same stamp a b h.labels h.earliest ((lengths_kept T Q).hears {stamp = stamp} w h (p u).long) (p u);
        queues = λ {stamp} {a} {b} h p u. rows_same stamp a b h.labels h.earliest ((lengths_kept T Q).queues {stamp = stamp} h (p u).long) (p u);
        next = λ {stamp} {a} p u. rows_up stamp (suc stamp) a (omega arith) (p (omega arith));
      }
