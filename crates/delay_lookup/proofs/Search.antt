-- A search by halving over rows whose first two numbers are their key.
use Prim.Native.Nat.{ℕ, suc, ◌+◌, ◌*◌, ◌<◌, ◌≤◌}
use mathlib.Core.Path.{◌≡◌, refl, ap, ◌∙◌, sym}
use mathlib.Core.Bool.{Bool, true, false, ◌&&◌}
use mathlib.Core.Logic.{⊎_elim}
use mathlib.Core.List.{List}
use native.Mathlib.Nat.{eq-or-lt_of_le, suc-mul, mul-le-mul_right}
use native.Mathlib.Omega.{arith}
use lib.ListN.{get_or}
use lib.Dec.{leb, ltb, eqb}
use borrow.Author.Tests.{leb-true, leb-false, ltb-true, ltb-false, eqb-true, eqb-false, le-leb, lt-leb, eq-eqb, ne_eqb}
use Rattle.loops.specs.Iter.{first_in, Hit, hit, miss, found}
use Rattle.loops.specs.Order.{KeysRise, Halved}
use Rattle.loops.proofs.Search.{first_ext, halved_ext, stays_ext, keys_stay, same_found, same_past, same_other}
use Rattle.delay_rows.specs.Flat.{delays_alone, stops_alone, delay_row_count, stop_row_count, delay_row_at, stop_row_at}
use Rattle.delay_rows.specs.Delays.{delay_row, stop_row}
use Rattle.std.specs.Prelude.{None, Some}
use Rattle.std.specs.Bool.{then_some}
use Rattle.delay_lookup.specs.Sane.{DelayRows, StopRows}
use Rattle.delay_lookup.specs.Halving.{key_at, Keyed}

pub mul_below : (i n s : ℕ) → i < n → i * s + s ≤ n * s
mul_below i n s h = let g : suc i * s ≤ n * s = mul-le-mul_right s h in omega (arith, suc-mul i s)

-- Keys: the first number decides, then the second
pub key_leb : (t a b : ℕ) → b < 4294967296 → leb (t * 4294967296 + 0) (a * 4294967296 + b) ≡ leb t a
key_leb t a b h = go (leb t a) refl
  where
    go : (x : Bool) → leb t a ≡ x → leb (t * 4294967296 + 0) (a * 4294967296 + b) ≡ x
    go true e = let l : t ≤ a = leb-true t a e in le-leb (t * 4294967296 + 0) (a * 4294967296 + b) (omega arith)
    go false e = let l : a < t = leb-false t a e in lt-leb (t * 4294967296 + 0) (a * 4294967296 + b) (omega arith)

pub key_eqb : (a b c d : ℕ) → b < 4294967296 → d < 4294967296 → eqb (a * 4294967296 + b) (c * 4294967296 + d) ≡ (eqb a c && eqb b d)
key_eqb a b c d hb hd = go (eqb a c) refl (eqb b d) refl
  where
    go : (x : Bool) → eqb a c ≡ x → (y : Bool) → eqb b d ≡ y → eqb (a * 4294967296 + b) (c * 4294967296 + d) ≡ (x && y)
    go true p true q = let e : a ≡ c = eqb-true a c p in let f : b ≡ d = eqb-true b d q in eq-eqb (a * 4294967296 + b) (c * 4294967296 + d) (omega arith)
    go true p false q = let e : a ≡ c = eqb-true a c p in ne_eqb (a * 4294967296 + b) (c * 4294967296 + d) (λ z. eqb-false b d q (omega arith))
    go false p y q = ne_eqb (a * 4294967296 + b) (c * 4294967296 + d) (λ z. eqb-false a c p (omega arith))

-- every number of a table fits 32 bits
abbrev pub Words : List ℕ → Type 0
Words l = (k : ℕ) → get_or l k 0 < 4294967296

-- The delay rows do not fall by trip, nor the stop rows by key
pub trips_rising : (rows : List ℕ) → DelayRows (delay_row_count rows) (delay_row_at rows) → KeysRise (λ i. (delay_row_at rows i).trip) (delay_row_count rows)
trips_rising rows d =
    record {
      rising = λ i j l u. ⊎_elim (λ (e : i ≡ j). omega (arith, ap (λ (k : ℕ). get_or rows (k * 2) 0) e)) (λ (e : i < j). ⊎_elim (λ z. omega arith) (λ z. omega arith) (d.rise i j e u)) (eq-or-lt_of_le l);
    }

pub stops_rising : (stops : List ℕ) → StopRows (stop_row_count stops) (stop_row_at stops) → Words stops → KeysRise (key_at stops 5) (stop_row_count stops)
stops_rising stops s w =
    record {
      rising = λ i j l u. ⊎_elim (λ (e : i ≡ j). omega (arith, ap (key_at stops 5) e)) (λ (e : i < j). ⊎_elim (λ z. omega (arith, w (i * 5 + 1))) (λ z. omega arith) (s.rise i j e u)) (eq-or-lt_of_le l);
    }

-- What a search by halving finds: its place, if a row is there and has the key
told : (key : ℕ → ℕ) (t n : ℕ) → KeysRise key n → (at : ℕ) → Halved (λ i. leb t (key i)) n at at → (b : Bool) → b ≡ (ltb at n && eqb (key at) t)
    → then_some b at ≡ found (first_in (λ i. eqb (key i) t) 0 n)
told key t n r at h b e = go (ltb at n) refl (eqb (key at) t) refl e
  where
    go : (x : Bool) → ltb at n ≡ x → (y : Bool) → eqb (key at) t ≡ y → b ≡ (x && y) → then_some b at ≡ found (first_in (λ i. eqb (key i) t) 0 n)
    go true p true q z = rw z (ap found (sym (same_found key t n r at at h (ltb-true at n p) (eqb-true (key at) t q))))
    go true p false q z = rw z (ap found (sym (same_other key t n r at at h (omega arith) (ltb-true at n p) (eqb-false (key at) t q))))
    go false p y q z = rw z (ap found (sym (same_past key t n r at at h (ltb-false at n p))))

-- The search for a trip's delay row: it may halve, and what it finds
module _ (rows : List ℕ) (trip key : ℕ) (w : Words rows) (e : key ≡ trip * 4294967296 + 0) where
  pub trip_key : (i : ℕ) → leb key (key_at rows 2 i) ≡ leb trip (delay_row_at rows i).trip
  trip_key i = ap (λ (k : ℕ). leb k (key_at rows 2 i)) e ∙ key_leb trip (get_or rows (i * 2) 0) (get_or rows (i * 2 + 1) 0) (w (i * 2 + 1))

  pub delay_keyed : DelayRows (delay_row_count rows) (delay_row_at rows) → Keyed rows 2 (delay_row_count rows) key
  delay_keyed d =
      record {
        two = omega arith;
        inside = omega arith;
        stays = stays_ext (λ i. leb trip (delay_row_at rows i).trip) (λ i. leb key (key_at rows 2 i)) (delay_row_count rows) (λ i. sym (trip_key i)) (keys_stay (λ i. (delay_row_at rows i).trip) trip (delay_row_count rows) (trips_rising rows d));
      }

  module _ (d : DelayRows (delay_row_count rows) (delay_row_at rows)) (at : ℕ) (h : Halved (λ i. leb key (key_at rows 2 i)) (delay_row_count rows) at at) where
    by-trip : Halved (λ i. leb trip (delay_row_at rows i).trip) (delay_row_count rows) at at
    by-trip = halved_ext (λ i. leb key (key_at rows 2 i)) (λ i. leb trip (delay_row_at rows i).trip) (delay_row_count rows) at at trip_key h

    pub delay_told : (b : Bool) → b ≡ (ltb at (delay_row_count rows) && eqb (delay_row_at rows at).trip trip) → then_some b at ≡ found (delay_row (delays_alone rows) trip)
    delay_told = told (λ i. (delay_row_at rows i).trip) trip (delay_row_count rows) (trips_rising rows d) at by-trip

-- The search for a stop row by its key
module _ (stops : List ℕ) (row sequence key : ℕ) (w : Words stops) (s : StopRows (stop_row_count stops) (stop_row_at stops)) where
  pub stop_keyed : Keyed stops 5 (stop_row_count stops) key
  stop_keyed = record { two = omega arith; inside = omega arith; stays = keys_stay (key_at stops 5) key (stop_row_count stops) (stops_rising stops s w) }

  module _ (e : key ≡ row * 4294967296 + sequence) (u : sequence < 4294967296) (at : ℕ) (h : Halved (λ j. leb key (key_at stops 5 j)) (stop_row_count stops) at at) where
    by_key : stop_row (stops_alone stops) row sequence ≡ first_in (λ j. eqb (key_at stops 5 j) key) 0 (stop_row_count stops)
    by_key = first_ext (λ j. eqb (stop_row_at stops j).row row && eqb (stop_row_at stops j).sequence sequence) (λ j. eqb (key_at stops 5 j) key) (stop_row_count stops) (λ j. sym (ap (eqb (key_at stops 5 j)) e ∙ key_eqb (get_or stops (j * 5) 0) (get_or stops (j * 5 + 1) 0) row sequence (w (j * 5 + 1)) u))

    pub stop_told : (b : Bool) → b ≡ (ltb at (stop_row_count stops) && eqb (key_at stops 5 at) key) → then_some b at ≡ found (stop_row (stops_alone stops) row sequence)
    stop_told b q = told (key_at stops 5) key (stop_row_count stops) (stops_rising stops s w) at h b q ∙ ap found (sym by_key)

-- what was found, as the code's enum says it
pub found_hit : (h : Hit) (i : ℕ) → found h ≡ Some i → h ≡ hit i
found_hit (hit k) i e = cc
found_hit miss i e = let z : ◌≡◌ {A = ℕ} 0 1 = cc in absurd (omega arith)

pub found_miss : (h : Hit) → found h ≡ None → h ≡ miss
found_miss (hit k) e = let z : ◌≡◌ {A = ℕ} 0 1 = cc in absurd (omega arith)
found_miss miss e = refl
