use Rattle.std.proofs.Common.{◌≡◌, ◌∷◌, [], ◌++◌, List, length, refl, sym, ap, ◌∙◌, append-nil, arith}
use Rattle.std.specs.Vec.Iter.{into_iter_items}
use Rattle.sj_read_spec.specs.declared.members.MemberDef.{MemberDef}
use Rattle.sj_read_spec.specs.Classes.{fields_in, methods_in}
use Rattle.sj_read.proofs.SortedLemmas.{fields_more, methods_more, nothing_left}
use Rattle.sj_read.proofs.classes.sorted.Goals as goal

pub loop-member-preserved : goal.loop-member-preserved
loop-member-preserved c =
    let at = c.loop-member in
    let steps : into_iter_items at.member-iterator ≡ c.in-Some.member ∷ into_iter_items c.next.new.self = c.in-Some.ensures.steps.0 in
    record {
      fields = fields_more _ _ _ c.in-Some.member _ _ steps c.in_ok-put.ensures.0 at.invariant.fields;
      methods = methods_more _ _ _ c.in-Some.member _ _ steps c.in_ok-put.ensures.1 at.invariant.methods;
      count =
          let was = at.invariant.count in
          let gone = c.in-Some.ensures.steps.1 in
          let short = ap length steps in
          omega arith;
    }

pub returns : goal.returns
returns c =
    let at = c.loop-member in
    let none = c.in-None.ensures.steps in
    let empty : into_iter_items at.member-iterator ≡ [] = nothing_left _ (sym at.invariant.count ∙ none.0) in
    let fields : at.fields.items ≡ fields_in c.args.members.items = sym (append-nil at.fields.items) ∙ ap (λ (ms : List MemberDef). at.fields.items ++ fields_in ms) (sym empty) ∙ at.invariant.fields in
    let methods : at.methods.items ≡ methods_in c.args.members.items = sym (append-nil at.methods.items) ∙ ap (λ (ms : List MemberDef). at.methods.items ++ methods_in ms) (sym empty) ∙ at.invariant.methods in
    rw (c.in_ok-from_vec.ensures, c.in_ok-from_vec-2.ensures, fields, methods) refl
