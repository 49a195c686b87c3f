use Rattle.std.proofs.Common.{arith, subst, IfOk, ◌≡◌, Option}
use Rattle.sj_names.specs.declared.entry_points.EntryPoint.{EntryPoint}
use Rattle.entries_file.proofs.Spelled.{no_text, one_field, two_fields, three_fields, IsCut}
use Rattle.entries_file.proofs.lines.entry_of_line.Goals as goal

pub returns-in_default : goal.returns-in_default
returns-in_default c = no_text _ c.in_default.ensures.cases.0

pub returns-in_default-split_once : goal.returns-in_default-split_once
returns-in_default-split_once c =
    one_field _ _ c.in-Ok.ensures.cases.0 c.in-Ok.ensures.cases.1 (c.in_default-split_once.ensures.byte (omega arith) (λ w o h. h))

pub returns-in_default-split_once-2 : goal.returns-in_default-split_once-2
returns-in_default-split_once-2 c =
    let first = c.in-Some.ensures.byte (omega arith) (λ w o h. h) in
    let cut : IsCut c.in-Ok.line.now c.in-Some.id.now c.in-Some.rest.now = record { front_is = first.0; behind_is = first.1; at = first.2 } in
    two_fields _ _ _ _ c.in-Ok.ensures.cases.0 c.in-Ok.ensures.cases.1 cut (c.in_default-split_once-2.ensures.byte (omega arith) (λ w o h. h))

pub returns : goal.returns
returns c =
    let first = c.in-Some.ensures.byte (omega arith) (λ w o h. h) in
    let cut : IsCut c.in-Ok.line.now c.in-Some.id.now c.in-Some.rest.now = record { front_is = first.0; behind_is = first.1; at = first.2 } in
    let second = c.in-Some-split_once.ensures.byte (omega arith) (λ w o h. h) in
    let behind : IsCut c.in-Some.rest.now c.in-Some-split_once.class.now c.in-Some-split_once.method.now = record { front_is = second.0; behind_is = second.1; at = second.2 } in
    subst (λ (o : Option EntryPoint). IfOk c.entry.result (λ e. e ≡ o)) (three_fields _ _ _ _ _ _ c.in-Ok.ensures.cases.0 c.in-Ok.ensures.cases.1 cut behind) c.entry.ensures
