-- Members taken one after the other, sorted into fields and methods.
use Rattle.std.proofs.Common.{◌≡◌, List, [], ◌∷◌, ◌++◌, length, refl, sym, ap, ◌∙◌, append_assoc, append-nil, arith}
use Rattle.sj_trees.specs.declared.classes.FieldDef.{FieldDef}
use Rattle.sj_trees.specs.declared.classes.MethodDef.{MethodDef}
use Rattle.sj_read_spec.specs.declared.members.MemberDef.{MemberDef}
use Rattle.sj_read_spec.specs.declared.members.MemberDef.TheVariants.{Field, Method}
use Rattle.sj_read_spec.specs.Classes.{fields_in, methods_in}

pub fields_more : (front now all : List FieldDef) (m : MemberDef) (items rest : List MemberDef) → items ≡ m ∷ rest → now ≡ front ++ fields_in (m ∷ []) → front ++ fields_in items ≡ all → now ++ fields_in rest ≡ all
fields_more front now all (Field f) items rest steps put so_far =
    ap (λ (fs : List FieldDef). fs ++ fields_in rest) put ∙ append_assoc front (f ∷ []) (fields_in rest) ∙ sym (ap (λ (ms : List MemberDef). front ++ fields_in ms) steps) ∙ so_far
fields_more front now all (Method m) items rest steps put so_far =
    ap (λ (fs : List FieldDef). fs ++ fields_in rest) (put ∙ append-nil front) ∙ sym (ap (λ (ms : List MemberDef). front ++ fields_in ms) steps) ∙ so_far

pub methods_more : (front now all : List MethodDef) (m : MemberDef) (items rest : List MemberDef) → items ≡ m ∷ rest → now ≡ front ++ methods_in (m ∷ []) → front ++ methods_in items ≡ all → now ++ methods_in rest ≡ all
methods_more front now all (Field f) items rest steps put so_far =
    ap (λ (fs : List MethodDef). fs ++ methods_in rest) (put ∙ append-nil front) ∙ sym (ap (λ (ms : List MemberDef). front ++ methods_in ms) steps) ∙ so_far
methods_more front now all (Method m) items rest steps put so_far =
    ap (λ (fs : List MethodDef). fs ++ methods_in rest) put ∙ append_assoc front (m ∷ []) (methods_in rest) ∙ sym (ap (λ (ms : List MemberDef). front ++ methods_in ms) steps) ∙ so_far

pub nothing_left : {X : Type 0} (l : List X) → length l ≡ 0 → l ≡ []
nothing_left [] h = refl
nothing_left (x ∷ xs) h = absurd (omega arith)
