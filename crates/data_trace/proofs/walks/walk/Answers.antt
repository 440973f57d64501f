use Rattle.std.proofs.Common.{rules, ◌≡◌, ℕ, ◌<◌, List, length, ◌++◌, ◌∷◌, [], slice_set, sym, ◌∙◌, ap, subst, arith}
use Rattle.data_trace.specs.declared.places.PlaceHop.{PlaceHop}
use Rattle.data_trace.specs.declared.places.PlaceHop.TheVariants.{Here, To, NoRoute}
use Rattle.data_trace.specs.declared.places.PlaceEnd.{PlaceEnd}
use Rattle.data_trace.specs.declared.places.PlaceEnd.TheVariants.{At, NoRoute as Lost}
use Rattle.data_trace.specs.declared.places.Mark.{Mark}
use Rattle.data_trace.specs.declared.places.Mark.TheVariants.{Unknown, Walked}
use Rattle.data_trace.specs.Steps.{Ends}
use Rattle.data_trace.specs.Marks.{next_of, hop_at, as_hop, as_end, mark_of, IsWalk, IsWalked}
use Rattle.data_trace.specs.declared.kinds.Hop.TheVariants as hop
use Rattle.data_trace.proofs.Ends.{ends_here, ends_lost}
use Rattle.data_trace.proofs.Walking.{walk_step, walk_stop, walk_loops, walked_same}
use Rattle.data_trace.proofs.walks.walk.Goals as goal

-- a walk ends at an unknown place from which the end is known
stopped : (hops : List PlaceHop) (old marks marks' : List Mark) (path path' : List ℕ) (from at : ℕ) (end : PlaceEnd) → IsWalk (next_of hops) old marks path from at →
    mark_of marks at ≡ Unknown → Ends (next_of hops) at (as_end end) → marks' ≡ slice_set marks at Walked → path' ≡ path ++ at ∷ [] → IsWalked (next_of hops) old marks' path' from end
stopped hops old marks marks' path path' from at end w u ends m p =
    subst (λ (ms : List Mark). IsWalked (next_of hops) old ms path' from end) (sym m)
    (subst (λ (q : List ℕ). IsWalked (next_of hops) old (slice_set marks at Walked) q from end) (sym p) (walk_stop (next_of hops) old marks path from at w end u ends))

pub returns-in-Walked-clause-walked : goal.returns-in-Walked-clause-walked
returns-in-Walked-clause-walked c = walk_loops (next_of c.args.hops.now) c.args.marks.now c.steps.marks c.steps.path.items c.args.from c.steps.at c.steps.invariant.walk (search rules)

pub returns-in-Here-clause-walked : goal.returns-in-Here-clause-walked
returns-in-Here-clause-walked c =
    let here : hop_at c.args.hops.now c.steps.at ≡ Here = search rules in
    stopped c.args.hops.now c.args.marks.now c.steps.marks c.write_mark.new.marks c.steps.path.items c.push.new.self.items c.args.from c.steps.at (At c.steps.at) c.steps.invariant.walk
    (search rules) (ends_here (next_of c.args.hops.now) c.steps.at (ap as_hop here)) c.write_mark.ensures (search rules)

pub returns-in-NoRoute-clause-walked : goal.returns-in-NoRoute-clause-walked
returns-in-NoRoute-clause-walked c =
    let lost : hop_at c.args.hops.now c.steps.at ≡ NoRoute = search rules in
    stopped c.args.hops.now c.args.marks.now c.steps.marks c.write_mark.new.marks c.steps.path.items c.push.new.self.items c.args.from c.steps.at Lost c.steps.invariant.walk
    (search rules) (ends_lost (next_of c.args.hops.now) c.steps.at (ap as_hop lost)) c.write_mark.ensures (search rules)

pub steps-preserved : goal.steps-preserved
steps-preserved c =
    let e : c.push.new.self.items ≡ c.steps.path.items ++ c.steps.at ∷ [] = search rules in
    let u : mark_of c.steps.marks c.steps.at ≡ Unknown = search rules in
    let h0 : hop_at c.args.hops.now c.steps.at ≡ To c.in-To.next = search rules in
    let h : next_of c.args.hops.now c.steps.at ≡ hop.To c.in-To.next = ap as_hop h0 in
    let b : c.in-To.next < length c.steps.marks = omega (arith, c.requires.within c.steps.at c.in-To.next h0, c.steps.invariant.walk.len, c.requires.len) in
    rw c.write_mark.ensures (record {
      walk = subst (λ p. IsWalk (next_of c.args.hops.now) c.args.marks.now (slice_set c.steps.marks c.steps.at Walked) p c.args.from c.in-To.next) (sym e)
          (walk_step (next_of c.args.hops.now) c.args.marks.now c.steps.marks c.steps.path.items c.args.from c.steps.at c.steps.invariant.walk c.in-To.next u h b);
      same = λ x. walked_same c.steps.marks c.steps.at x (omega (arith, c.steps.invariant.walk.inside)) u ∙ c.steps.invariant.same x;
      room = omega (arith, c.steps.invariant.room, c.push.ensures.capacity);
    })
