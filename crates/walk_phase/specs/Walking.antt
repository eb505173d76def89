-- What the walks of a round read, and which tables and queries agree with it. Definitions only.
-- Inner: nobody has to believe this.
use Rattle.std.specs.Prelude.{ℕ, zero, suc, ◌*◌, ◌≤◌, ◌<◌, ◌≡◌, true, false, List, [], ◌∷◌, get_or, eqb, Float}
use Rattle.std.specs.Float.{nan}
use Rattle.tables.specs.Timetable.{timetable}
use Rattle.tables.specs.Sane.{Sane, OrderOk}
use Rattle.model.specs.Tables.{Tables, Query}
use Rattle.arc_flags.specs.Skipping.{target_words, Patterned}
use Rattle.query_types.specs.declared.Lay.{Lay}
use Rattle.search_state.specs.Places.{EgressTable}
use Rattle.query_types.specs.declared.Context.{Context}

-- of the n numbers from e on, those before the first whose key is not x
unfoldable pub run_from : (ℕ → ℕ) → ℕ → ℕ → ℕ → List ℕ
run_from key x e zero = []
run_from key x e (suc n) = elim (eqb (key e) x) [ true ↦ e ∷ run_from key x (suc e) n | false ↦ [] ]

-- the slices that walks read are as the door leaves them: the timetable; of d distances one for each edge; b bytes, 64 to a pattern
pub record WalkGround (lay : Lay) (ctx : Context) (t : List ℕ) (d b : ℕ) : Type 0 where
  pub sane : Sane t ctx.counts.timetable
  pub order : OrderOk t ctx.counts.timetable
  pub stops : ctx.counts.timetable.stops ≡ lay.stops
  pub distances : ctx.counts.timetable.edges ≤ d
  pub few : ctx.net.patterns ≤ 4096
  pub bytes : b ≡ ctx.net.patterns * 64

-- tables and a query that hold what is read: the timetable t, the edges' distances d, the patterns' bytes b, the cells of the egress
-- stops, the egress table among the working numbers w
pub record WalksAgree (lay : Lay) (ctx : Context) (t : List ℕ) (d : List Float) (b w : List ℕ) (T : Tables) (Q : Query) : Type 0 where
  pub timetable : T.timetable ≡ timetable t ctx.counts.timetable
  pub distance : (e : ℕ) → e < ctx.counts.timetable.edges → T.distance e ≡ get_or d e nan
  pub wheelchair : Q.wheelchair ≡ ctx.net.terms.wheelchair
  pub patterned : Patterned T b ctx.net.patterns
  pub targets : ctx.net.target ≡ target_words T Q
  pub egress : EgressTable Q.egress lay w
