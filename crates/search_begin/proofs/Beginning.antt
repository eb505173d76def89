-- The state before the first round. Assumes nothing.
use Prim.Native.Nat.{ℕ}
use mathlib.Core.Path.{◌≡◌, refl, sym, ap, ◌∙◌, subst}
use mathlib.Core.Bool.{Bool}
use mathlib.Core.List.{List, []}
use native.Mathlib.Omega.{arith}
use lib.ListN.{length}
use lib.Ieee.{Float}
use Rattle.loops.specs.Count.{tab_from}
use Rattle.model.specs.Tables.{Tables, Query}
use Rattle.model.specs.Search.{Arrivals, access, new_arrivals}
use Rattle.query_types.specs.declared.Lay.{Lay}
use Rattle.query_types.specs.declared.Head.{Head}
use Rattle.search_state.specs.Places.{Sized, turned}
use Rattle.search_state.specs.View.{memory, arrivals_of, queue_of}
use Rattle.search_state.specs.Step.{Starting}
use Rattle.search_begin.specs.Fill.{Fresh, new_head}
use Rattle.search_begin.proofs.Turns.{below_view, turned_view}
use Rattle.search_state.proofs.Lists.{turned_sized}
use Rattle.line_pruning.proofs.Rounds.{chains_zero, books_zero}
use Rattle.query_types.specs.declared.QueryCounts.{QueryCounts}
use Rattle.query_types.specs.declared.Lengths.{Lengths}
use Rattle.query_input.specs.Lent.{Lent, tables_of, query_of, lent}
use Rattle.query_input.specs.Sane.{Admitted}
use Rattle.query_types.specs.Layout.{lay_of}
use Rattle.search_begin.specs.Begin.{net_of, Lends, Askable, LaidOut, Begun, context_of}
use Rattle.search_begin.specs.Laying.{Origins, Accessed}
use Rattle.search_begin.proofs.Reading.{lends_is, admitted_as, askable_as, origins_of}
use Rattle.search_begin.proofs.Laying.{held, zeros, rides, laid, laid_as}

-- a new query's arrivals, over the other list
new_turned : (T : Tables) (Q : Query) (lay : Lay) (w l : List ℕ) (m : List Float) (q : List ℕ) → arrivals_of lay (memory w l m new_head) q ≡ new_arrivals T Q
    → arrivals_of (turned lay) (memory w l m new_head) q ≡ new_arrivals T Q
unfolding queue_of tab_from
new_turned T Q lay w l m q e =
    turned_view T Q lay w l m new_head q q 0
    ∙ ap (λ (a : Arrivals). record { labels = a.labels; earliest = a.earliest; best = a.best; stop_stamp = a.stop_stamp; reached = []; seg_queue = queue_of q 0; seg_reach = a.seg_reach }) e

pub sized_as : {lay : Lay} {a b c a' b' c' : ℕ} → Sized lay a b c → a' ≡ a → b' ≡ b → c' ≡ c → Sized lay a' b' c'
sized_as p e f g = rw (e, f, g) p

-- so the origins may be gone through
pub starts : (x : Lent) (lay : Lay) (w w' l : List ℕ) (m : List Float) (h : Head) → Sized lay (length w) (length l) (length m) → Fresh lay (memory w l m h) → LaidOut x lay w w'
    → Starting (turned lay) (memory w' l m h)
starts x lay w w' l m h ok f p =
    let e : h.count ≡ 0 = ap (λ (k : Head). k.count) f.head in
    record { sized = turned_sized (rw p.size ok); walks = record { small = p.walks.small }; room = omega (arith, e); written = f.written }

pub access_needs : (n : QueryCounts) (t built q : List ℕ) (distances : List Float) (lay lay' : Lay) (w w' l : List ℕ) (m : List Float) (h : Head) → lay' ≡ turned lay → lay ≡ lay_of n
    → Askable n t built distances q → Sized lay (length w) (length l) (length m) → Fresh lay (memory w l m h) → LaidOut (lent n t built [] [] [] q) lay w w'
    → Origins n lay'.stops q (length distances) × ((h.count ≡ 0) × Starting lay' (memory w' l m h))
access_needs n t built q distances lay lay' w w' l m h e s a ok f p =
    let c : lay'.stops ≡ n.timetable.stops = ap (λ (k : Lay). k.stops) e ∙ ap (λ (k : Lay). k.stops) s in (
      subst (λ (k : ℕ). Origins n k q (length distances)) (sym c) (origins_of _ _ (askable_as a)),
      (ap (λ (k : Head). k.count) f.head, subst (λ (k : Lay). Starting k (memory w' l m h)) (sym e) (starts (lent n t built [] [] [] q) lay w w' l m h ok f p)),
    )

module _ (x : Lent) (l : Lengths) (A : Admitted x l) (w w' w'' ls ls'' : List ℕ) (m m'' : List Float) (h h'' : Head) (ok : Sized (lay_of x.n) (length w) (length ls) (length m))
    (f : Fresh (lay_of x.n) (memory w ls m h)) (p : LaidOut x (lay_of x.n) w w')
    (g : Accessed x.n x.q x.distances (turned (lay_of x.n)) (memory w' ls m h) (memory w'' ls'' m'' h'')) where
  abbrev lay : Lay
  lay = lay_of x.n

  view_of : (q : List ℕ) → arrivals_of (turned lay) (memory w'' ls'' m'' h'') q ≡ access (tables_of x) (query_of x) (query_of x).origins (new_arrivals (tables_of x) (query_of x))
  view_of q =
      let new : arrivals_of lay (memory w' ls m new_head) q ≡ new_arrivals (tables_of x) (query_of x) =
      below_view lay w w' ls m new_head q ok.sections (omega arith) p.size p.below
      ∙ subst (λ (k : Head). arrivals_of lay (memory w ls m k) q ≡ new_arrivals (tables_of x) (query_of x)) f.head (f.view (tables_of x) (query_of x) refl refl q) in
      g.view (tables_of x) (query_of x) (record { at = p.egress.at }) refl q
      ∙ ap (access (tables_of x) (query_of x) (query_of x).origins) (ap (λ (k : Head). arrivals_of (turned lay) (memory w' ls m k) q) f.head ∙ new_turned (tables_of x) (query_of x) lay w' ls m q new)

  pub begun : (flagged : Bool) → Begun x (context_of x (net_of x) lay flagged) (memory w'' ls'' m'' h'')
  begun flagged =
      let H = held x w w' w'' ok.sections.words p g.same in
      let z = zeros x w w' w'' p g.same (λ i u. f.zero i (omega (arith, u))) in
      record {
        laid = laid x l A w'' H flagged;
        rides = rides x l A w'' H flagged;
        view = λ q. sym (view_of q);
        books = books_zero lay (tables_of x) (query_of x) w'' H.size refl z;
        chains = chains_zero lay w'' z;
        sized = turned_sized g.sized;
        walks = H.walks;
        few = let e : h.count ≡ 0 = ap (λ (k : Head). k.count) f.head in omega (arith, g.count, e, A.limits.origins);
        queued = g.queued ∙ ap (λ (k : Head). k.queued) f.head;
        full = g.full ∙ ap (λ (k : Head). k.full) f.head;
        written = g.written;
      }

-- for every query that lends these slices
pub begins : (n : QueryCounts) (t built q : List ℕ) (distances : List Float) (lay lay' : Lay) (w w' w'' ls ls'' : List ℕ) (m m'' : List Float) (h h'' : Head) → lay' ≡ turned lay → lay ≡ lay_of n
    → Sized lay (length w) (length ls) (length m) → Fresh lay (memory w ls m h) → LaidOut (lent n t built [] [] [] q) lay w w'
    → Accessed n q distances lay' (memory w' ls m h) (memory w'' ls'' m'' h'')
    → (x : Lent) (l : Lengths) → Admitted x l → Lends x n t built distances q → (flagged : Bool) → Begun x (context_of x (net_of x) lay flagged) (memory w'' ls'' m'' h'')
begins n t built q distances lay lay' w w' w'' ls ls'' m m'' h h'' d e ok f p g x l A s flagged =
    let y : Lent = lent n t built x.transfers x.patterns distances q in
    subst (λ (z : Lent). Begun z (context_of z (net_of z) lay flagged) (memory w'' ls'' m'' h'')) (sym (lends_is s))
    (subst (λ (k : Lay). Begun y (context_of y (net_of y) k flagged) (memory w'' ls'' m'' h'')) (sym e)
    (begun y l (admitted_as A s) w w' w'' ls ls'' m m'' h h'' (subst (λ (k : Lay). Sized k (length w) (length ls) (length m)) e ok)
    (subst (λ (k : Lay). Fresh k (memory w ls m h)) e f)
    (laid_as y (lay_of n) w w' (subst (λ (k : Lay). LaidOut (lent n t built [] [] [] q) k w w') e p))
    (subst (λ (k : Lay). Accessed n q distances k (memory w' ls m h) (memory w'' ls'' m'' h'')) (d ∙ ap turned e) g) flagged))
