-- The search, unflagged: what `run_tbr` does where no arc flags are in use, on no frequency trips and no delay but of whole trips.
use Prim.Native.Nat.{ℕ, zero, suc, ◌+◌, ◌*◌, ◌-◌}
use mathlib.Core.Bool.{Bool, true, false, cond, ◌&&◌, ◌||◌, not}
use mathlib.Core.List.{List, [], ◌∷◌, ◌++◌}
use lib.ListN.{get_or, set, replicate}
use lib.Dec.{ltb, leb, eqb}
use Rattle.model.proofs.Net.{Net}

-- the part that improvements change: earliest, best total, stop stamps, stops reached; the label rows, each label here its arrival plus one, 0 for none
pub record Core : Type 0 where
  pub lab : List ℕ
  pub E : List ℕ
  pub B : ℕ
  pub SS : List ℕ
  pub Q : List ℕ

-- the part that boardings change: for each trip the round's stamp, offset and departure; this round's boardings (trip, offset); all scans (round, trip, offset)
pub record Book : Type 0 where
  pub TS : List ℕ
  pub TO : List ℕ
  pub TD : List ℕ
  pub LB : List (ℕ × ℕ)
  pub log : List (ℕ × ℕ × ℕ)

pub record St : Type 0 where
  pub c : Core
  pub k : Book

abbrev pub at : Core → ℕ → ℕ
at c s = get_or c.E s 0

module _ (N : Net) where
  -- the best total after an arrival at s at time v
  unfoldable pub best : ℕ → ℕ → ℕ → ℕ
  best s v b = cond (N.is_eg s && ltb (v + N.eg s) b) (v + N.eg s) b

  unfoldable pub imp : ℕ → ℕ → ℕ → Core → Core
  imp stamp s v c =
      let new : Bool = not (eqb (get_or c.SS s 0) stamp) in
      record { lab = set c.lab (13 * s + (stamp - 1)) (suc v); E = set c.E s v; B = best s v c.B; SS = cond new (set c.SS s stamp) c.SS; Q = cond new (c.Q ++ (s ∷ [])) c.Q }

  unfoldable pub relax : ℕ → ℕ → ℕ → Core → Core
  relax stamp s v c = cond (ltb v (at c s)) (imp stamp s v c) c

  -- from offset off on, k stop times are left
  unfoldable pub scan : ℕ → ℕ → ℕ → ℕ → Core → Core
  scan stamp t zero off c = c
  scan stamp t (suc k) off c = elim (N.alight t off) [ false ↦ scan stamp t k (suc off) c | true ↦ elim (ltb (N.arr t off) c.B) [ false ↦ c | true ↦ scan stamp t k (suc off) (relax stamp (N.stop_at t off) (N.arr t off) c) ] ]

  unfoldable pub ride : ℕ → ℕ → ℕ → Core → Core
  ride stamp t o c = scan stamp t (N.len t - suc o) (suc o) c

  -- an earlier trip of the line was boarded this round at this offset or before
  unfoldable pub blocked : ℕ → ℕ → List (ℕ × ℕ) → Bool
  blocked t o [] = false
  blocked t o (b ∷ bs) = (eqb (N.line b.0) (N.line t) && ltb (N.pos b.0) (N.pos t) && leb b.1 o) || blocked t o bs

  unfoldable pub board : ℕ → ℕ → ℕ → ℕ → Book → Book
  board round stamp t o k = record { TS = set k.TS t stamp; TO = set k.TO t o; TD = set k.TD t (N.dep t o); LB = cond (N.prunes t) ((t, o) ∷ k.LB) k.LB; log = (round, t, o) ∷ k.log }

  -- is the trip passed over for a boarding of this round?
  unfoldable pub passed : ℕ → ℕ → ℕ → Book → Bool
  passed stamp t o k =
      eqb (get_or k.TS t 0) stamp && not (ltb (N.dep t o) (get_or k.TD t 0) || (eqb (N.dep t o) (get_or k.TD t 0) && ltb o (get_or k.TO t 0)))

  unfoldable pub skips : ℕ → ℕ → ℕ → ℕ → St → Bool
  skips stamp after t o s = not (N.ok_trip t) || (N.prunes t && blocked t o s.k.LB) || not (N.pick t o) || ltb (N.dep t o) after || (leb s.c.B (N.dep t o) || passed stamp t o s.k)

  unfoldable pub departures : ℕ → ℕ → ℕ → List (ℕ × ℕ) → St → St
  departures round stamp after [] s = s
  departures round stamp after (d ∷ ds) s =
      elim (leb (s.c.B + N.margin) (N.sch d.0 d.1)) [
        | true ↦ s
        | false ↦ elim (skips stamp after d.0 d.1 s) [
          | true ↦ departures round stamp after ds s
          | false ↦ departures round stamp after ds (record { c = ride stamp d.0 d.1 s.c; k = board round stamp d.0 d.1 s.k })
        ]
      ]

  unfoldable pub change : ℕ → ℕ
  change zero = zero
  change (suc r) = N.chg

  unfoldable pub stops : ℕ → ℕ → List ℕ → St → St
  stops round stamp [] s = s
  stops round stamp (x ∷ xs) s =
      let after : ℕ = at s.c x + change round in
      elim (leb s.c.B after) [ true ↦ stops round stamp xs s | false ↦ stops round stamp xs (departures round stamp after (N.deps x) s) ]

  unfoldable pub walk : ℕ → ℕ → List (ℕ × ℕ) → Core → Core
  walk stamp v [] c = c
  walk stamp v (e ∷ es) c = elim (ltb (v + e.1) c.B) [ false ↦ walk stamp v es c | true ↦ walk stamp v es (relax stamp e.0 (v + e.1) c) ]

  unfoldable pub walks : ℕ → List ℕ → Core → Core
  walks stamp [] c = c
  walks stamp (x ∷ xs) c = walks stamp xs (walk stamp (at c x) (N.edges x) c)

  abbrev pub ride_st : ℕ → St → St
  ride_st round s = stops round (suc (suc round)) s.c.Q (record { c = record { lab = s.c.lab; E = s.c.E; B = s.c.B; SS = s.c.SS; Q = [] }; k = record { TS = s.k.TS; TO = s.k.TO; TD = s.k.TD; LB = []; log = s.k.log } })

  abbrev pub walk_st : ℕ → St → St
  walk_st round s =
      let w : Core = walks (suc (suc round)) s.c.Q (record { lab = s.c.lab; E = s.c.E; B = s.c.B; SS = s.c.SS; Q = [] }) in
      record { c = record { lab = w.lab; E = w.E; B = w.B; SS = w.SS; Q = w.Q ++ s.c.Q }; k = s.k }

  unfoldable pub rounds : ℕ → ℕ → St → St
  rounds zero r s = s
  rounds (suc n) r s = rounds n (suc r) (walk_st r (ride_st r s))

  unfoldable pub arrive : ℕ × ℕ → Core → Core
  arrive o c =
      elim (ltb (N.start + o.1) (at c o.0)) [
        | true ↦ record { lab = set c.lab (13 * o.0 + 0) (suc (N.start + o.1)); E = set c.E o.0 (N.start + o.1); B = best o.0 (N.start + o.1) c.B; SS = set c.SS o.0 1; Q = c.Q ++ (o.0 ∷ []) }
        | false ↦ record { lab = c.lab; E = c.E; B = best o.0 (N.start + o.1) c.B; SS = c.SS; Q = c.Q }
      ]

  unfoldable pub access : List (ℕ × ℕ) → Core → Core
  access [] c = c
  access (o ∷ os) c = access os (arrive o c)

  abbrev pub begin : ℕ → St
  begin trips = record { c = access N.orig (record { lab = replicate (N.n_s * 13) 0; E = replicate N.n_s N.MAX; B = N.MAX; SS = replicate N.n_s 0; Q = [] }); k = record { TS = replicate trips 0; TO = replicate trips 0; TD = replicate trips 0; LB = []; log = [] } }

  -- the whole search
  unfoldable pub run : ℕ → ℕ → St
  run trips n = rounds n 0 (begin trips)

  -- the least total over the egress stops, with its stop; MAX where none is reached
  unfoldable pub target : Core → List (ℕ × ℕ) → ℕ × ℕ → ℕ × ℕ
  target c [] a = a
  target c (e ∷ es) a =
      elim (eqb (at c e.0) N.MAX) [
        | true ↦ target c es a
        | false ↦ elim (ltb (at c e.0 + e.1) a.0) [ true ↦ target c es (at c e.0 + e.1, e.0) | false ↦ target c es a ]
      ]

  -- the same over the labels of a row
  unfoldable pub row_best : Core → ℕ → List (ℕ × ℕ) → ℕ × ℕ → ℕ × ℕ
  row_best c r [] a = a
  row_best c r (e ∷ es) a =
      elim (get_or c.lab (13 * e.0 + r) 0) [
        | zero ↦ row_best c r es a
        | suc v ↦ elim (ltb (v + e.1) a.0) [ true ↦ row_best c r es (v + e.1, e.0) | false ↦ row_best c r es a ]
      ]

  -- rows from r on, k of them; each candidate is (total, stop, row), below the last one taken and at most the slack above the best
  unfoldable pub cands : Core → ℕ → ℕ → ℕ → ℕ → List (ℕ × ℕ × ℕ)
  cands c top zero r last = []
  cands c top (suc k) r last =
      let b = row_best c r N.egs (N.MAX, N.MAX) in
      elim (ltb b.0 last && leb b.0 (top + N.slack)) [ true ↦ (b.0, b.1, r) ∷ cands c top k (suc r) b.0 | false ↦ cands c top k (suc r) last ]

  pub record Answer : Type 0 where
    pub total : ℕ
    pub stop : ℕ
    pub cand : List (ℕ × ℕ × ℕ)

  unfoldable pub answer : ℕ → ℕ → Answer
  answer trips n =
      let c = (run trips n).c in
      let t = target c N.egs (N.MAX, N.MAX) in
      record { total = t.0; stop = t.1; cand = cands c t.0 (suc n) 0 N.MAX }
