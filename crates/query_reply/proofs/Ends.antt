-- After the rounds: what the answer is read from, and the outcome.
use Prim.Native.Nat.{ℕ, zero, suc, ◌+◌, ◌*◌, ◌≤◌, ◌<◌}
use mathlib.Core.Path.{◌≡◌, refl, sym, ap, ◌∙◌}
use mathlib.Core.Logic.{inl, inr, ⊎_elim}
use mathlib.Core.Bool.{Bool, false}
use mathlib.Core.List.{List}
use native.Mathlib.Omega.{arith}
use lib.ListN.{length, get_or}
use lib.Seq.{get_or-take}
use lib.Ieee.{Float}
use Rattle.loops.proofs.Count.{get_d_tab}
use Rattle.label.specs.declared.Label.{Label}
use Rattle.label.specs.declared.Label.TheVariants.{Empty}
use Rattle.label.specs.Table.{record_of, loaded}
use Rattle.model.specs.Search.{Arrivals, reached_by, final, at}
use Rattle.answer_laws.proofs.Bounds.{final_earliest, final_arrival}
use Rattle.query_types.specs.declared.Head.{Head}
use Rattle.search_state.specs.Part.{part}
use Rattle.search_state.specs.View.{memory, labels_of}
use Rattle.best_target.specs.Totals.{EgressOk}
use Rattle.query_types.specs.declared.Lengths.{Lengths}
use Rattle.query_input.specs.Lent.{Lent, tables_of, query_of, egress_part, egress_at}
use Rattle.query_input.specs.Sane.{Admitted}
use Rattle.query_input.proofs.Parts.{egress_size, egress_are, part_at, query_room}
use Rattle.query_input.proofs.Laws.{door_of}
use Rattle.query_types.specs.Layout.{lay_of}
use Rattle.rounds.specs.Rounds.{Ended}
use Rattle.query_reply.specs.Finish.{Ending, AnswerAgrees}

module _ (x : Lent) (l : Lengths) (A : Admitted x l) where
  egress_ok : EgressOk x.n.timetable.stops (egress_part x.q x.n)
  egress_ok =
      let size : length (egress_part x.q x.n) ≡ x.n.egress * 2 = egress_size x.q x.n (query_room A.sized) in
      record {
        few = omega (arith, A.limits.egress);
        stop = λ i h. let e = part_at x.q (egress_at x.n) (x.n.egress * 2) (i * 2) (omega arith) in omega (arith, A.numbered.egress i (omega arith));
        walk = λ i h.
            let z : egress_at x.n + (i * 2 + 1) ≡ egress_at x.n + 1 + i * 2 = omega arith in
            let e = part_at x.q (egress_at x.n) (x.n.egress * 2) (i * 2 + 1) (omega arith) ∙ ap (λ (j : ℕ). get_or x.q j 0) z in
            omega (arith, A.ranged.egress i (omega arith));
      }

  module _ (flagged : Bool) (room : ℕ) (w ls : List ℕ) (m : List Float) (h : Head) (E : Ended x flagged room (lay_of x.n) (memory w ls m h)) (no : h.full ≡ false) where
    abbrev end : Arrivals
    end = (final (tables_of x) (query_of x) flagged).arrivals

    reached_at : (s : ℕ) → s < x.n.timetable.stops → at end s ≡ get_or w s 0
    unfolding part
    reached_at s u = ap (λ (l : List ℕ). get_or l s 0) (sym (E.earliest no)) ∙ get_or-take x.n.timetable.stops w s 0 u

    label_at : (s r : ℕ) → s < x.n.timetable.stops → r < 13 → get_or end.labels (record_of s r) Empty ≡ loaded ls m (record_of s r)
    unfolding labels_of
    label_at s r u v = ap (λ (l : List Label). get_or l (record_of s r) Empty) (sym (E.labels no)) ∙ get_d_tab (loaded ls m) (x.n.timetable.stops * 13) (record_of s r) Empty (omega arith)

    pub ending : Ending x.n x.q w ls m
    ending =
        record {
          limits = A.limits;
          long = query_room A.sized;
          earliest = record {
            long = omega (arith, E.sized.sections.words);
            small = λ s u. ⊎_elim (λ e. inl (sym (reached_at s u) ∙ e)) (λ e. inr (omega (arith, reached_at s u))) (final_earliest (tables_of x) (query_of x) (door_of x l A) flagged s u);
          };
          egress = egress_ok;
          labels_ok = record {
            few = A.limits.counts.stops;
            words = omega (arith, E.sized.rows);
            distances_long = omega (arith, E.sized.metres);
            small = λ s r u v. go s r u v (reached_by (loaded ls m (record_of s r))) refl;
          };
        }
      where
        go : (s r : ℕ) → s < x.n.timetable.stops → r < 13 → (k : ℕ) → reached_by (loaded ls m (record_of s r)) ≡ k → k ≤ 134217728
        go s r u v zero e = omega arith
        go s r u v (suc k) e = omega (arith, final_arrival (tables_of x) (query_of x) (door_of x l A) flagged s r k u v (ap reached_by (label_at s r u v) ∙ e))

    pub agrees : AnswerAgrees (tables_of x) (query_of x) end x.n x.q w ls m
    agrees =
        record {
          reached = record { at = reached_at };
          labelled = record { at = label_at };
          egress = sym (egress_are x.q x.n (query_room A.sized));
          slack = refl;
          rounds = refl;
        }
