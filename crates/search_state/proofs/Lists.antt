-- The two lists of reached stops: exchanged from one phase to the next, and read as they came while arrivals only fall. Assumes nothing.
use Prim.Native.Nat.{ℕ, ◌+◌, ◌≤◌, ◌<◌}
use mathlib.Core.Path.{◌≡◌, sym, ap, ◌∙◌}
use mathlib.Core.Logic.{◌⊎◌, inl, inr}
use mathlib.Core.List.{List}
use native.Mathlib.Omega.{arith}
use lib.ListN.{length, get_or}
use Rattle.query_types.specs.declared.Lay.{Lay}
use Rattle.query_types.specs.Layout.{list_room}
use Rattle.search_state.specs.Part.{part}
use Rattle.search_state.specs.Places.{WorkSized, Sized, StopsListed, Same, Falls, other_at, turned}
use Rattle.search_state.proofs.Part.{part_at, part_length}

-- THE LISTS EXCHANGED: what holds of a layout holds still
pub turned_sections : {lay : Lay} {a : ℕ} → WorkSized lay a → WorkSized (turned lay) a
turned_sections {lay} ok =
    record {
      stops = ok.stops;
      trips = ok.trips;
      lines = ok.lines;
      words = ok.words;
      first = ok.other_first;
      fits = ok.other_fits;
      other_first = ok.first;
      other_fits = ok.fits;
      apart = go ok.apart;
    }
  where
    go : (lay.list + (lay.stops + 64) ≤ lay.other) ⊎ (lay.other + (lay.stops + 64) ≤ lay.list)
        → (lay.other + (lay.stops + 64) ≤ lay.list) ⊎ (lay.list + (lay.stops + 64) ≤ lay.other)
    go (inl x) = inr x
    go (inr x) = inl x

pub turned_sized : {lay : Lay} {a b c : ℕ} → Sized lay a b c → Sized (turned lay) a b c
turned_sized ok = record { sections = turned_sections ok.sections; rows = ok.rows; metres = ok.metres }

-- THE OTHER LIST is as it came
pub record OtherKept (lay : Lay) (w w' : List ℕ) : Type 0 where
  pub list : part w' lay.other (list_room lay.stops) ≡ part w lay.other (list_room lay.stops)

pub same_other : {lay : Lay} {w w' : List ℕ} → Same lay w w' → OtherKept lay w w'
same_other s = record { list = s.list }

-- so its stops are
pub other_kept : {lay : Lay} {w w' : List ℕ} (i : ℕ) → OtherKept lay w w' → i < lay.stops + 64 → other_at lay w' i ≡ other_at lay w i
other_kept {lay} {w} {w'} i k h =
    sym (part_at w' lay.other (lay.stops + 64) i h) ∙ ap (λ (l : List ℕ). get_or l i 0) k.list ∙ part_at w lay.other (lay.stops + 64) i h

-- .. and, where no stop's earliest arrival is later than it was, what is known of them
pub listed_kept : {lay : Lay} {w w' : List ℕ} {n latest : ℕ} → StopsListed lay w n latest → OtherKept lay w w' → Falls lay w w'
    → StopsListed lay w' n latest
listed_kept {lay} {w} {w'} {n} p o f =
    record {
      few = p.few;
      inside = λ i h. rw (other_kept i o (k i h)) (p.inside i h);
      early = λ i h. rw (other_kept i o (k i h)) (omega (arith, p.early i h, f.earlier (other_at lay w i) (p.inside i h)));
    }
  where
    k : (i : ℕ) → i < n → i < lay.stops + 64
    k i h = omega (arith, p.few)

-- its first n stops, as numbers of the workspace
pub other_length : {lay : Lay} {w : List ℕ} {n latest : ℕ} → StopsListed lay w n latest → WorkSized lay (length w) → length (part w lay.other n) ≡ n
other_length {lay} {w} {n} p ok = part_length w lay.other n (omega (arith, p.few, ok.other_fits, ok.words))

pub other_in : {lay : Lay} {w w' : List ℕ} {n latest : ℕ} (i : ℕ) → StopsListed lay w n latest → OtherKept lay w w' → i < n
    → get_or (part w lay.other n) i 0 ≡ other_at lay w' i
other_in {lay} {w} {w'} {n} i p o h = part_at w lay.other n i h ∙ sym (other_kept i o (omega (arith, p.few)))
