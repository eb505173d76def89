-- Where the sections for boarding begin in a query's working numbers, and the chains of trips boarded in a round. Definitions only.
-- From `rest_at` on, with S stops, T trips, L lines: egress table S, positions T, FIFO flags L, events before each trip T, trip stamps T,
-- boarding offsets T, boarding departures T, line stamps L, line heads L, links T, least offsets T.
-- Inner: nobody has to believe this.
use Rattle.std.specs.Prelude.{ℕ, zero, suc, ◌+◌, Bool, false, cond, ◌&&◌, ◌||◌, List, [], ◌∷◌, get_or, set, ltb, leb, eqb}
use Rattle.query_types.specs.declared.Lay.{Lay}
use Rattle.query_types.specs.Layout.{line_stamps_at, heads_at, links_at, positions_at, least_at, trip_stamps_at, boarded_offsets_at, boarded_departures_at}

-- where the chain of line l begins: its head where the line bears this stamp, else nowhere (0)
unfoldable pub chain_first : Lay → ℕ → List ℕ → ℕ → ℕ
chain_first lay stamp w l = cond (eqb (get_or w (line_stamps_at lay + l) 0) stamp) (get_or w (heads_at lay + l) 0) 0

-- the chain from h on, at most k trips: h is a trip + 1, the trip's link the next one; 0 is the end
unfoldable pub chain_from : Lay → List ℕ → ℕ → ℕ → List ℕ
chain_from lay w zero h = []
chain_from lay w (suc k) zero = []
chain_from lay w (suc k) (suc x) = x ∷ chain_from lay w k (get_or w (links_at lay + x) 0)

-- THE CHAIN of line l: its trips boarded under this stamp
abbrev pub chain : Lay → ℕ → List ℕ → ℕ → List ℕ
chain lay stamp w l = chain_from lay w lay.trips (chain_first lay stamp w l)

-- is x in a list?
unfoldable pub is_in : ℕ → List ℕ → Bool
is_in x [] = false
is_in x (y ∷ ys) = eqb y x || is_in x ys

-- does trip x stand before position p in its line, and was it boarded at offset o or before?
abbrev pub before : Lay → List ℕ → ℕ → ℕ → ℕ → Bool
before lay w p o x = ltb (get_or w (positions_at lay + x) 0) p && leb (get_or w (least_at lay + x) 0) o

-- does one of these trips?
unfoldable pub some_before : Lay → List ℕ → ℕ → ℕ → List ℕ → Bool
some_before lay w p o [] = false
some_before lay w p o (x ∷ xs) = before lay w p o x || some_before lay w p o xs

-- trip t at the front of the chain of line l, with offset o
abbrev pub linked : (lay : Lay) (stamp line trip offset : ℕ) (w : List ℕ) → List ℕ
linked lay stamp l t o w =
    set (set (set (set w (links_at lay + t) (chain_first lay stamp w l)) (least_at lay + t) o) (heads_at lay + l) (t + 1)) (line_stamps_at lay + l) stamp

-- the least offset of trip t, not above o
abbrev pub lowered : Lay → ℕ → ℕ → List ℕ → List ℕ
lowered lay t o w = cond (ltb o (get_or w (least_at lay + t) 0)) (set w (least_at lay + t) o) w

-- trip t in the chain of line l: at the front if it was not boarded under this stamp before
abbrev pub listed : (lay : Lay) (stamp : ℕ) (prunes : Bool) (line trip offset : ℕ) (w : List ℕ) → List ℕ
listed lay stamp prunes l t o w = cond prunes (cond (eqb (get_or w (trip_stamps_at lay + t) 0) stamp) (lowered lay t o w) (linked lay stamp l t o w)) w

-- the stamp, offset and departure of trip t
abbrev pub stamped_as : (lay : Lay) (stamp trip offset departure : ℕ) (w : List ℕ) → List ℕ
stamped_as lay stamp t o dep w = set (set (set w (trip_stamps_at lay + t) stamp) (boarded_offsets_at lay + t) o) (boarded_departures_at lay + t) dep
