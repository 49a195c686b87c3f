-- Trees.
use Rattle.std.proofs.Common.{◌≡◌, ℕ, zero, suc, ◌<◌, ◌^◌, Bool, ltb, List, [], ◌∷◌, length, map, slice_get, Option, Some, None, refl, sym, ap, ◌∙◌, subst, append-nil, ltb-true, lt-ltb, arith, map-id}
use Rattle.std.specs.Prelude.{ℤ}
use Rattle.std.specs.Int.{Width, w8, w16, w32, w64, cast_signed, cast_unsigned}
use Rattle.std.proofs.lemmas.Int.{of_z-to_z}
use Rattle.sj_names.specs.Grammar.{is_plain_name, is_class_name}
use Rattle.sj_names.specs.declared.method_names.MethodName.{MethodName}
use Rattle.sj_names.specs.declared.method_names.Namespace.{Namespace}
use Rattle.sj_trees.specs.declared.operators.UnaryOp.{UnaryOp}
use Rattle.sj_trees.specs.declared.operators.BinaryOp.{BinaryOp}
use Rattle.sj_trees.specs.declared.positions.Position.{Position}
use Rattle.sj_trees.specs.Operators.{unary_with, unary_code, binary_with, binary_code}
use Rattle.sj_trees.proofs.Codes.{unary_code-unary_with, binary_code-binary_with}
use Rattle.sj_trees.specs.Term.{Term, Terms, Cases, more_terms, more_cases, block_of, match_on, new_object, apply, apply_statically, apply_static, array_value}
use Rattle.sj_trees.specs.View.{Case, terms_of, cases_of}
use Rattle.sj_trees.specs.declared.forms.Form.{Form}
use Rattle.sj_trees.specs.declared.forms.Form.TheVariants.{Leaf, Statement, Branch, Call, Operation}
use Rattle.sj_trees.specs.declared.forms.LeafForm.{LeafForm}
use Rattle.sj_trees.specs.declared.forms.LeafForm.TheVariants as leaf
use Rattle.sj_trees.specs.declared.forms.StatementForm.{StatementForm}
use Rattle.sj_trees.specs.declared.forms.StatementForm.TheVariants as statement
use Rattle.sj_trees.specs.declared.forms.BranchForm.{BranchForm}
use Rattle.sj_trees.specs.declared.forms.BranchForm.TheVariants as branch
use Rattle.sj_trees.specs.declared.forms.CallForm.{CallForm}
use Rattle.sj_trees.specs.declared.forms.CallForm.TheVariants as call
use Rattle.sj_trees.specs.declared.forms.OperationForm.{OperationForm}
use Rattle.sj_trees.specs.declared.forms.OperationForm.TheVariants as operation
use Rattle.sj_read_spec.specs.Codes.{namespaces}
use Rattle.sj_trees.specs.Forms.{among, form_codes}
use Rattle.sj_read_spec.specs.Spelling.{Tested, IsCounted}
use Rattle.sj_read_spec.specs.Tables.{Tables, IsBelow}
use Rattle.sj_read_spec.specs.Types.{IsSigned, IsPosition, IsNamespace}
use Rattle.sj_read_spec.specs.Trees.{IsUnary, IsBinary, IsCase, IsLeaf, IsStatement, IsBranch, IsCall, IsOperation, IsForm, IsTree}
use Rattle.sj_write_spec.specs.Fields.{Fields, file_field, ◌▸◌, byte, signed, count, each, list_fields, position_fields}
use Rattle.sj_write_spec.specs.References.{names_in_method}
use Rattle.sj_write_spec.specs.Tables.{same_text, index_of}
use Rattle.sj_write_spec.specs.Trees.{namespace_code, keys_fields, count_terms, count_cases, term_fields, each_term, each_case, terms_fields, cases_fields}
use Rattle.sj_write_spec.specs.Renumbered.{renumbered_position, renumbered, renumbered_all, renumbered_cases}
use Rattle.sj_write_spec.specs.Written.{spelled}
use Rattle.sj_write_spec.proofs.Entries.{found, below, has_at}
use Rattle.sj_write_spec.proofs.Same.{text_decides}
use Rattle.sj_write_spec.proofs.Bytes.{step, number_spelled}
use Rattle.sj_write_spec.proofs.Carry.{Carried, HasText, HasMethod, join, last, last_of, value, carried_number, carried_code, carried_name, carried_string, carried_method, found_is, tested_is}
use Rattle.sj_write_spec.proofs.CarryLists.{carried_list, carried_mark}
use Rattle.sj_write_spec.proofs.CarryNames.{carried_type, carried_array_reference}

-- the number in the new table of the text that a number names in the old one
abbrev pub place_of : List (List ℕ) → Option (List ℕ) → ℕ
place_of files None = 0
place_of files (Some text) = index_of same_text files text

abbrev pub number : Tables → Tables → ℕ → ℕ
number old new n = place_of new.files (slice_get old.files n)

-- the own names of the old table's names of methods are names of the old table
abbrev pub Known : Tables → Type 0
Known old = (m : MethodName) → HasMethod old.methods m → (x : List ℕ) → HasText (names_in_method m) x → HasText old.names x

-- ---- positions

abbrev pub PositionCarried : Tables → Position → Type 0
PositionCarried old p = Carried old (λ new text. IsPosition (length new.files) (renumbered_position (number old new) p) text) (λ new. position_fields new.files (renumbered_position (number old new) p)) (position_fields old.files p)

some_at : {A : Type 0} (xs : List A) (n : ℕ) → n < length xs → (x : A) × (slice_get xs n ≡ Some x)
some_at [] n h = absurd (omega (arith, h))
some_at (x ∷ xs) zero h = (x, refl)
some_at (x ∷ xs) (suc n) h = some_at xs n (omega (arith, h))

file_carried : (old : Tables) (n : ℕ) (text : List ℕ) (o : Option (List ℕ)) → slice_get old.files n ≡ o → o ≡ Some text
    → Carried old (λ new bytes. IsBelow (length new.files) (place_of new.files o) bytes) (λ new. file_field (slice_get new.files (place_of new.files o))) (file_field o)
file_carried old n text None e s = absurd cc
file_carried old n text (Some other) e s = record {
  inside = has_at same_text text_decides old.files n other e;
  same = λ new cover. ap file_field (found same_text text_decides new.files other cover);
  again = λ new fit cover.
      let less = below same_text text_decides new.files other cover in
      let place = index_of same_text new.files other in
      let few = fit.files in
      record { value = place; front = spelled new (file_field (Some other)); back = []; first = number_spelled 4 place (omega (arith, less, few)); second = subst (λ (b : Bool). Tested b place place []) (sym (lt-ltb place (length new.files) less)) (record { same = refl; empty = refl }); parts = sym (append-nil (spelled new (file_field (Some other)))) };
}

pub carried_position : (old : Tables) (p : Position) (text : List ℕ) → IsPosition (length old.files) p text → PositionCarried old p
unfolding IsPosition
carried_position old p text h =
    step h (λ file f1 k1 h1 h. step h (λ line f2 k2 h2 h. step h (λ column f3 k3 h3 h.
    step h1 (λ n f4 k4 h4 t.
    let test = tested_is (ltb n (length old.files)) n file k4 t in
    let there : file < length old.files = ltb-true file (length old.files) (ap (λ (m : ℕ). ltb m (length old.files)) test.1 ∙ test.0) in
    let at = some_at old.files file there in
    subst (PositionCarried old) (sym h.same)
    (join _ (file_carried old file at.0 (slice_get old.files file) refl at.1) (join _ (carried_number 4 line h2.small) (last _ (carried_number 4 column h3.small))))))))

-- ---- parts of trees

pub carried_namespace : {old : Tables} (n : Namespace) → Carried old (λ new text. IsNamespace n text) (λ new. byte (namespace_code n)) (byte (namespace_code n))
carried_namespace Namespace.Public = carried_code (among namespaces) 0 Namespace.Public (omega arith) refl
carried_namespace Namespace.PublicStatic = carried_code (among namespaces) 1 Namespace.PublicStatic (omega arith) refl
carried_namespace Namespace.Private = carried_code (among namespaces) 2 Namespace.Private (omega arith) refl
carried_namespace Namespace.PrivateStatic = carried_code (among namespaces) 3 Namespace.PrivateStatic (omega arith) refl
carried_namespace Namespace.Constructor = carried_code (among namespaces) 4 Namespace.Constructor (omega arith) refl

carried_unary : (old : Tables) (o : UnaryOp) (text : List ℕ) → IsUnary o text → Carried old (λ new text. IsUnary o text) (λ new. byte (unary_code o)) (byte (unary_code o))
carried_unary old o text h =
    step h (λ code front back p h.
    let is = found_is (unary_with code) o back h in
    let same : unary_code o ≡ code = unary_code-unary_with code o is in
    subst (λ (c : ℕ). Carried old (λ new text. IsUnary o text) (λ new. byte c) (byte c)) (sym same) (carried_code unary_with code o p.small is))

carried_binary : (old : Tables) (o : BinaryOp) (text : List ℕ) → IsBinary o text → Carried old (λ new text. IsBinary o text) (λ new. byte (binary_code o)) (byte (binary_code o))
carried_binary old o text h =
    step h (λ code front back p h.
    let is = found_is (binary_with code) o back h in
    let same : binary_code o ≡ code = binary_code-binary_with code o is in
    subst (λ (c : ℕ). Carried old (λ new text. IsBinary o text) (λ new. byte c) (byte c)) (sym same) (carried_code binary_with code o p.small is))

carried_signed : (old : Tables) (w : Width) (n : ℕ) (z : ℤ) (text : List ℕ) → ((x : ℕ) → x < 256 ^ n → cast_unsigned w (cast_signed w x) ≡ x) → IsSigned w n z text → Carried old (λ new text. IsSigned w n z text) (λ new. signed w n z) (signed w n z)
carried_signed old w n z text again h =
    step h (λ x front back p h.
    let small = p.small in
    let back_again : cast_unsigned w z ≡ x = ap (cast_unsigned w) h.same ∙ again x small in
    let fits : cast_unsigned w z < 256 ^ n = subst (λ (m : ℕ). m < 256 ^ n) (sym back_again) small in
    last_of (λ new. cast_unsigned w z) (carried_number n (cast_unsigned w z) fits) (λ new. record { same = h.same ∙ ap (cast_signed w) (sym back_again); empty = refl }))

-- ---- trees

abbrev pub TreeCarried : Tables → ℕ → Term → Type 0
TreeCarried old d y = Carried old (λ new text. IsTree d new (renumbered (number old new) y) text) (λ new. term_fields new.files (renumbered (number old new) y)) (term_fields old.files y)

abbrev Inner : Tables → ℕ → Type 0
Inner old d = (x : Term) (text : List ℕ) → IsTree d old x text → TreeCarried old d x

head : {old : Tables} {fs' : Tables → Fields} {fs : Fields} (d code : ℕ) (tag : Form) (p : Position) (y : Tables → Term) → code < 256 → among form_codes code ≡ Some tag → PositionCarried old p
    → Carried old (λ new text. IsForm (IsTree d new) new tag (renumbered_position (number old new) p) (y new) text) fs' fs
    → Carried old (λ new text. IsTree (suc d) new (y new) text) (λ new. byte code ▸ position_fields new.files (renumbered_position (number old new) p) ▸ fs' new) (byte code ▸ position_fields old.files p ▸ fs)
unfolding IsTree
head d code tag p y small e pos form = join (λ new. tag) (carried_code (among form_codes) code tag small e) (join _ pos form)

revalue : {old : Tables} {fs' : Tables → Fields} {fs : Fields} (d : ℕ) (y z : Tables → Term) → ((new : Tables) → y new ≡ z new) → Carried old (λ new text. IsTree d new (y new) text) fs' fs → Carried old (λ new text. IsTree d new (z new) text) fs' fs
revalue {fs = fs} d y z e one = record { inside = one.inside; same = one.same; again = λ new fit cover. subst (λ (x : Term). IsTree d new x (spelled new fs)) (e new) (one.again new fit cover) }

refield : {old : Tables} {Goal : Tables → List ℕ → Type 0} (f' g' : Tables → Fields) (f g : Fields) → ((new : Tables) → f' new ≡ g' new) → f ≡ g → Carried old Goal f' f → Carried old Goal g' g
refield {old = old} {Goal = Goal} f' g' f g e' e one =
    let moved = subst (λ (x : Fields). Carried old Goal f' x) e one in
    record { inside = moved.inside; same = λ new cover. sym (e' new) ∙ moved.same new cover; again = moved.again }

renumbered_terms_of : (f : ℕ → ℕ) (ts : List Term) → terms_of (map (renumbered f) ts) ≡ renumbered_all f (terms_of ts)
renumbered_terms_of f [] = refl
renumbered_terms_of f (t ∷ ts) = ap (more_terms (renumbered f t)) (renumbered_terms_of f ts)

terms_listed : (sources : List (List ℕ)) (ts : List Term) → list_fields (term_fields sources) ts ≡ terms_fields sources (terms_of ts)
terms_listed sources ts = λ i. count (counted ts i) ▸ listed ts i
  where
    counted : (ts : List Term) → length ts ≡ count_terms (terms_of ts)
    counted [] = refl
    counted (t ∷ ts) = ap suc (counted ts)

    listed : (ts : List Term) → each (term_fields sources) ts ≡ each_term sources (terms_of ts)
    listed [] = refl
    listed (t ∷ ts) = ap (λ (fs : Fields). term_fields sources t ▸ fs) (listed ts)

pub length_map : {A B : Type 0} (f : A → B) (xs : List A) → length (map f xs) ≡ length xs
length_map f [] = refl
length_map f (x ∷ xs) = ap suc (length_map f xs)

carried_terms : (old : Tables) (d : ℕ) → Inner old d → (ts : List Term) (text : List ℕ) → IsCounted (IsTree d old) ts text
    → Carried old (λ new text. IsCounted (IsTree d new) (map (renumbered (number old new)) ts) text) (λ new. terms_fields new.files (renumbered_all (number old new) (terms_of ts))) (terms_fields old.files (terms_of ts))
carried_terms old d inner ts text h =
    refield _ _ _ _
    (λ new. ap (λ (n : ℕ). count n ▸ each (term_fields new.files) (map (renumbered (number old new)) ts)) (sym (length_map (renumbered (number old new)) ts)) ∙ terms_listed new.files (map (renumbered (number old new)) ts) ∙ ap (terms_fields new.files) (renumbered_terms_of (number old new) ts))
    (terms_listed old.files ts)
    (carried_list old (IsTree d old) (λ new. IsTree d new) (λ new. renumbered (number old new)) (λ new. term_fields new.files) (term_fields old.files) inner ts text h)

-- ---- cases

abbrev moved_case : (ℕ → ℕ) → Case → Case
moved_case f c = (c.0, renumbered f c.1)

abbrev case_fields : List (List ℕ) → Case → Fields
case_fields sources c = keys_fields c.0 ▸ term_fields sources c.1

renumbered_cases_of : (f : ℕ → ℕ) (cs : List Case) → cases_of (map (moved_case f) cs) ≡ renumbered_cases f (cases_of cs)
renumbered_cases_of f [] = refl
renumbered_cases_of f (c ∷ cs) = ap (more_cases c.0 (renumbered f c.1)) (renumbered_cases_of f cs)

cases_listed : (sources : List (List ℕ)) (cs : List Case) → list_fields (case_fields sources) cs ≡ cases_fields sources (cases_of cs)
cases_listed sources cs = λ i. count (counted cs i) ▸ listed cs i
  where
    counted : (cs : List Case) → length cs ≡ count_cases (cases_of cs)
    counted [] = refl
    counted (c ∷ cs) = ap suc (counted cs)

    listed : (cs : List Case) → each (case_fields sources) cs ≡ each_case sources (cases_of cs)
    listed [] = refl
    listed (c ∷ cs) = ap (λ (fs : Fields). case_fields sources c ▸ fs) (listed cs)

carried_keys : (old : Tables) (keys : List ℤ) (text : List ℕ) → IsCounted (IsSigned w32 4) keys text → Carried old (λ new text. IsCounted (IsSigned w32 4) keys text) (λ new. keys_fields keys) (keys_fields keys)
carried_keys old keys text h =
    let one = carried_list old (IsSigned w32 4) (λ new. IsSigned w32 4) (λ new z. z) (λ new. signed w32 4) (signed w32 4) (λ z text h. carried_signed old w32 4 z text (λ x h. of_z-to_z w32 x h) h) keys text h in
    subst (λ (ks : List ℤ). Carried old (λ new text. IsCounted (IsSigned w32 4) ks text) (λ new. count (length keys) ▸ each (signed w32 4) ks) (keys_fields keys)) (map-id keys) one

carried_case : (old : Tables) (d : ℕ) → Inner old d → (c : Case) (text : List ℕ) → IsCase (IsTree d old) c text
    → Carried old (λ new text. IsCase (IsTree d new) (moved_case (number old new) c) text) (λ new. case_fields new.files (moved_case (number old new) c)) (case_fields old.files c)
unfolding IsCase
carried_case old d inner c text h =
    step h (λ keys f1 k1 h1 h. step h (λ body f2 k2 h2 h.
    subst (λ (c : Case). Carried old (λ new text. IsCase (IsTree d new) (moved_case (number old new) c) text) (λ new. case_fields new.files (moved_case (number old new) c)) (case_fields old.files c)) (sym h.same)
    (join _ (carried_keys old keys _ h1) (last _ (inner body _ h2)))))

carried_cases : (old : Tables) (d : ℕ) → Inner old d → (cs : List Case) (text : List ℕ) → IsCounted (IsCase (IsTree d old)) cs text
    → Carried old (λ new text. IsCounted (IsCase (IsTree d new)) (map (moved_case (number old new)) cs) text) (λ new. cases_fields new.files (renumbered_cases (number old new) (cases_of cs))) (cases_fields old.files (cases_of cs))
carried_cases old d inner cs text h =
    refield _ _ _ _
    (λ new. ap (λ (n : ℕ). count n ▸ each (case_fields new.files) (map (moved_case (number old new)) cs)) (sym (length_map (moved_case (number old new)) cs)) ∙ cases_listed new.files (map (moved_case (number old new)) cs) ∙ ap (cases_fields new.files) (renumbered_cases_of (number old new) cs))
    (cases_listed old.files cs)
    (carried_list old (IsCase (IsTree d old)) (λ new. IsCase (IsTree d new)) (λ new. moved_case (number old new)) (λ new. case_fields new.files) (case_fields old.files) (carried_case old d inner) cs text h)

-- ---- forms

carried_leaf : (old : Tables) (d : ℕ) (tag : LeafForm) (p : Position) → PositionCarried old p → (y : Term) (text : List ℕ) → IsLeaf old tag p y text → TreeCarried old (suc d) y
unfolding IsLeaf
carried_leaf old d leaf.Skip p pos y text h = subst (TreeCarried old (suc d)) (sym h.same) (head d 2 (Leaf leaf.Skip) p _ (omega arith) refl pos value)
carried_leaf old d leaf.LoadModule p pos y text h = step h (λ x1 f1 k1 h1 h. subst (TreeCarried old (suc d)) (sym h.same) (head d 15 (Leaf leaf.LoadModule) p _ (omega arith) refl pos (last _ (carried_name is_class_name old x1 _ h1))))
carried_leaf old d leaf.SelectStatic p pos y text h = step h (λ x1 f1 k1 h1 h. step h (λ x2 f2 k2 h2 h. step h (λ x3 f3 k3 h3 h. subst (TreeCarried old (suc d)) (sym h.same) (head d 18 (Leaf leaf.SelectStatic) p _ (omega arith) refl pos (join _ (carried_name is_class_name old x1 _ h1) (join _ (carried_name is_plain_name old x2 _ h2) (last _ (carried_type old x3 _ h3))))))))
carried_leaf old d leaf.Undefined p pos y text h = subst (TreeCarried old (suc d)) (sym h.same) (head d 30 (Leaf leaf.Undefined) p _ (omega arith) refl pos value)
carried_leaf old d leaf.Null p pos y text h = subst (TreeCarried old (suc d)) (sym h.same) (head d 31 (Leaf leaf.Null) p _ (omega arith) refl pos value)
carried_leaf old d leaf.BooleanLiteral p pos y text h = step h (λ x1 f1 k1 h1 h. subst (TreeCarried old (suc d)) (sym h.same) (head d 32 (Leaf leaf.BooleanLiteral) p _ (omega arith) refl pos (last _ (carried_mark x1))))
carried_leaf old d leaf.CharLiteral p pos y text h = step h (λ x1 f1 k1 h1 h. subst (TreeCarried old (suc d)) (sym h.same) (head d 33 (Leaf leaf.CharLiteral) p _ (omega arith) refl pos (last _ (carried_number 2 x1 h1.small))))
carried_leaf old d leaf.ByteLiteral p pos y text h = step h (λ x1 f1 k1 h1 h. subst (TreeCarried old (suc d)) (sym h.same) (head d 34 (Leaf leaf.ByteLiteral) p _ (omega arith) refl pos (last _ (carried_signed old w8 1 x1 _ (λ x h. of_z-to_z w8 x h) h1))))
carried_leaf old d leaf.ShortLiteral p pos y text h = step h (λ x1 f1 k1 h1 h. subst (TreeCarried old (suc d)) (sym h.same) (head d 35 (Leaf leaf.ShortLiteral) p _ (omega arith) refl pos (last _ (carried_signed old w16 2 x1 _ (λ x h. of_z-to_z w16 x h) h1))))
carried_leaf old d leaf.IntLiteral p pos y text h = step h (λ x1 f1 k1 h1 h. subst (TreeCarried old (suc d)) (sym h.same) (head d 36 (Leaf leaf.IntLiteral) p _ (omega arith) refl pos (last _ (carried_signed old w32 4 x1 _ (λ x h. of_z-to_z w32 x h) h1))))
carried_leaf old d leaf.LongLiteral p pos y text h = step h (λ x1 f1 k1 h1 h. subst (TreeCarried old (suc d)) (sym h.same) (head d 37 (Leaf leaf.LongLiteral) p _ (omega arith) refl pos (last _ (carried_signed old w64 8 x1 _ (λ x h. of_z-to_z w64 x h) h1))))
carried_leaf old d leaf.StringLiteral p pos y text h = step h (λ x1 f1 k1 h1 h. subst (TreeCarried old (suc d)) (sym h.same) (head d 38 (Leaf leaf.StringLiteral) p _ (omega arith) refl pos (last _ (carried_string old x1 _ h1))))
carried_leaf old d leaf.VarRef p pos y text h = step h (λ x1 f1 k1 h1 h. step h (λ x2 f2 k2 h2 h. subst (TreeCarried old (suc d)) (sym h.same) (head d 39 (Leaf leaf.VarRef) p _ (omega arith) refl pos (join _ (carried_name is_plain_name old x1 _ h1) (last _ (carried_type old x2 _ h2))))))
carried_leaf old d leaf.This p pos y text h = step h (λ x1 f1 k1 h1 h. subst (TreeCarried old (suc d)) (sym h.same) (head d 40 (Leaf leaf.This) p _ (omega arith) refl pos (last _ (carried_type old x1 _ h1))))

carried_statement : (old : Tables) (d : ℕ) (inner : Inner old d) (tag : StatementForm) (p : Position) → PositionCarried old p → (y : Term) (text : List ℕ) → IsStatement (IsTree d old) old tag p y text → TreeCarried old (suc d) y
unfolding IsStatement
carried_statement old d inner statement.VarDef p pos y text h = step h (λ x1 f1 k1 h1 h. step h (λ x2 f2 k2 h2 h. step h (λ x3 f3 k3 h3 h. step h (λ x4 f4 k4 h4 h. subst (TreeCarried old (suc d)) (sym h.same) (head d 1 (Statement statement.VarDef) p _ (omega arith) refl pos (join _ (carried_name is_plain_name old x1 _ h1) (join _ (carried_type old x2 _ h2) (join _ (carried_mark x3) (last _ (inner x4 _ h4))))))))))
carried_statement old d inner statement.Block p pos y text h = step h (λ x1 f1 k1 h1 h. subst (TreeCarried old (suc d)) (sym h.same) (revalue (suc d) _ _ (λ new. ap (λ (es : Terms). block_of (renumbered_position (number old new) p) es) (renumbered_terms_of (number old new) x1)) (head d 3 (Statement statement.Block) p _ (omega arith) refl pos (last _ (carried_terms old d inner x1 _ h1)))))
carried_statement old d inner statement.Labeled p pos y text h = step h (λ x1 f1 k1 h1 h. step h (λ x2 f2 k2 h2 h. step h (λ x3 f3 k3 h3 h. subst (TreeCarried old (suc d)) (sym h.same) (head d 4 (Statement statement.Labeled) p _ (omega arith) refl pos (join _ (carried_name is_plain_name old x1 _ h1) (join _ (carried_type old x2 _ h2) (last _ (inner x3 _ h3))))))))
carried_statement old d inner statement.Assign p pos y text h = step h (λ x1 f1 k1 h1 h. step h (λ x2 f2 k2 h2 h. subst (TreeCarried old (suc d)) (sym h.same) (head d 5 (Statement statement.Assign) p _ (omega arith) refl pos (join _ (inner x1 _ h1) (last _ (inner x2 _ h2))))))
carried_statement old d inner statement.Return p pos y text h = step h (λ x1 f1 k1 h1 h. step h (λ x2 f2 k2 h2 h. subst (TreeCarried old (suc d)) (sym h.same) (head d 6 (Statement statement.Return) p _ (omega arith) refl pos (join _ (inner x1 _ h1) (last _ (carried_name is_plain_name old x2 _ h2))))))
carried_statement old d inner statement.Throw p pos y text h = step h (λ x1 f1 k1 h1 h. subst (TreeCarried old (suc d)) (sym h.same) (head d 12 (Statement statement.Throw) p _ (omega arith) refl pos (last _ (inner x1 _ h1))))
carried_statement old d inner statement.StoreModule p pos y text h = step h (λ x1 f1 k1 h1 h. step h (λ x2 f2 k2 h2 h. subst (TreeCarried old (suc d)) (sym h.same) (head d 16 (Statement statement.StoreModule) p _ (omega arith) refl pos (join _ (carried_name is_class_name old x1 _ h1) (last _ (inner x2 _ h2))))))
carried_statement old d inner statement.Log p pos y text h = step h (λ x1 f1 k1 h1 h. subst (TreeCarried old (suc d)) (sym h.same) (head d 41 (Statement statement.Log) p _ (omega arith) refl pos (last _ (inner x1 _ h1))))

carried_branch : (old : Tables) (d : ℕ) (inner : Inner old d) (tag : BranchForm) (p : Position) → PositionCarried old p → (y : Term) (text : List ℕ) → IsBranch (IsTree d old) old tag p y text → TreeCarried old (suc d) y
unfolding IsBranch
carried_branch old d inner branch.If p pos y text h = step h (λ x1 f1 k1 h1 h. step h (λ x2 f2 k2 h2 h. step h (λ x3 f3 k3 h3 h. step h (λ x4 f4 k4 h4 h. subst (TreeCarried old (suc d)) (sym h.same) (head d 7 (Branch branch.If) p _ (omega arith) refl pos (join _ (inner x1 _ h1) (join _ (inner x2 _ h2) (join _ (inner x3 _ h3) (last _ (carried_type old x4 _ h4))))))))))
carried_branch old d inner branch.While p pos y text h = step h (λ x1 f1 k1 h1 h. step h (λ x2 f2 k2 h2 h. subst (TreeCarried old (suc d)) (sym h.same) (head d 8 (Branch branch.While) p _ (omega arith) refl pos (join _ (inner x1 _ h1) (last _ (inner x2 _ h2))))))
carried_branch old d inner branch.DoWhile p pos y text h = step h (λ x1 f1 k1 h1 h. step h (λ x2 f2 k2 h2 h. subst (TreeCarried old (suc d)) (sym h.same) (head d 9 (Branch branch.DoWhile) p _ (omega arith) refl pos (join _ (inner x1 _ h1) (last _ (inner x2 _ h2))))))
carried_branch old d inner branch.TryCatch p pos y text h = step h (λ x1 f1 k1 h1 h. step h (λ x2 f2 k2 h2 h. step h (λ x3 f3 k3 h3 h. step h (λ x4 f4 k4 h4 h. subst (TreeCarried old (suc d)) (sym h.same) (head d 10 (Branch branch.TryCatch) p _ (omega arith) refl pos (join _ (inner x1 _ h1) (join _ (carried_name is_plain_name old x2 _ h2) (join _ (inner x3 _ h3) (last _ (carried_type old x4 _ h4))))))))))
carried_branch old d inner branch.TryFinally p pos y text h = step h (λ x1 f1 k1 h1 h. step h (λ x2 f2 k2 h2 h. subst (TreeCarried old (suc d)) (sym h.same) (head d 11 (Branch branch.TryFinally) p _ (omega arith) refl pos (join _ (inner x1 _ h1) (last _ (inner x2 _ h2))))))
carried_branch old d inner branch.Match p pos y text h = step h (λ x1 f1 k1 h1 h. step h (λ x2 f2 k2 h2 h. step h (λ x3 f3 k3 h3 h. step h (λ x4 f4 k4 h4 h. subst (TreeCarried old (suc d)) (sym h.same) (revalue (suc d) _ _ (λ new. ap (λ (es : Cases). match_on (renumbered_position (number old new) p) (renumbered (number old new) x1) es (renumbered (number old new) x3) x4) (renumbered_cases_of (number old new) x2)) (head d 13 (Branch branch.Match) p _ (omega arith) refl pos (join _ (inner x1 _ h1) (join _ (carried_cases old d inner x2 _ h2) (join _ (inner x3 _ h3) (last _ (carried_type old x4 _ h4)))))))))))

carried_call : (old : Tables) (d : ℕ) (inner : Inner old d) (known : Known old) (tag : CallForm) (p : Position) → PositionCarried old p → (y : Term) (text : List ℕ) → IsCall (IsTree d old) old tag p y text → TreeCarried old (suc d) y
unfolding IsCall
carried_call old d inner known call.New p pos y text h = step h (λ x1 f1 k1 h1 h. step h (λ x2 f2 k2 h2 h. step h (λ x3 f3 k3 h3 h. subst (TreeCarried old (suc d)) (sym h.same) (revalue (suc d) _ _ (λ new. ap (λ (es : Terms). new_object (renumbered_position (number old new) p) x1 x2 es) (renumbered_terms_of (number old new) x3)) (head d 14 (Call call.New) p _ (omega arith) refl pos (join _ (carried_name is_class_name old x1 _ h1) (join _ (carried_method old x2 _ known h2) (last _ (carried_terms old d inner x3 _ h3)))))))))
carried_call old d inner known call.Select p pos y text h = step h (λ x1 f1 k1 h1 h. step h (λ x2 f2 k2 h2 h. step h (λ x3 f3 k3 h3 h. step h (λ x4 f4 k4 h4 h. subst (TreeCarried old (suc d)) (sym h.same) (head d 17 (Call call.Select) p _ (omega arith) refl pos (join _ (inner x1 _ h1) (join _ (carried_name is_class_name old x2 _ h2) (join _ (carried_name is_plain_name old x3 _ h3) (last _ (carried_type old x4 _ h4))))))))))
carried_call old d inner known call.Apply p pos y text h = step h (λ x1 f1 k1 h1 h. step h (λ x2 f2 k2 h2 h. step h (λ x3 f3 k3 h3 h. step h (λ x4 f4 k4 h4 h. subst (TreeCarried old (suc d)) (sym h.same) (revalue (suc d) _ _ (λ new. ap (λ (es : Terms). apply (renumbered_position (number old new) p) (renumbered (number old new) x1) x2 es x4) (renumbered_terms_of (number old new) x3)) (head d 19 (Call call.Apply) p _ (omega arith) refl pos (join _ (inner x1 _ h1) (join _ (carried_method old x2 _ known h2) (join _ (carried_terms old d inner x3 _ h3) (last _ (carried_type old x4 _ h4)))))))))))
carried_call old d inner known call.ApplyStatically p pos y text h = step h (λ x1 f1 k1 h1 h. step h (λ x2 f2 k2 h2 h. step h (λ x3 f3 k3 h3 h. step h (λ x4 f4 k4 h4 h. step h (λ x5 f5 k5 h5 h. step h (λ x6 f6 k6 h6 h. subst (TreeCarried old (suc d)) (sym h.same) (revalue (suc d) _ _ (λ new. ap (λ (es : Terms). apply_statically (renumbered_position (number old new) p) (renumbered (number old new) x1) x2 x3 x4 es x6) (renumbered_terms_of (number old new) x5)) (head d 20 (Call call.ApplyStatically) p _ (omega arith) refl pos (join _ (inner x1 _ h1) (join _ (carried_name is_class_name old x2 _ h2) (join _ (carried_namespace x3) (join _ (carried_method old x4 _ known h4) (join _ (carried_terms old d inner x5 _ h5) (last _ (carried_type old x6 _ h6)))))))))))))))
carried_call old d inner known call.ApplyStatic p pos y text h = step h (λ x1 f1 k1 h1 h. step h (λ x2 f2 k2 h2 h. step h (λ x3 f3 k3 h3 h. step h (λ x4 f4 k4 h4 h. step h (λ x5 f5 k5 h5 h. subst (TreeCarried old (suc d)) (sym h.same) (revalue (suc d) _ _ (λ new. ap (λ (es : Terms). apply_static (renumbered_position (number old new) p) x1 x2 x3 es x5) (renumbered_terms_of (number old new) x4)) (head d 21 (Call call.ApplyStatic) p _ (omega arith) refl pos (join _ (carried_name is_class_name old x1 _ h1) (join _ (carried_namespace x2) (join _ (carried_method old x3 _ known h3) (join _ (carried_terms old d inner x4 _ h4) (last _ (carried_type old x5 _ h5)))))))))))))

carried_operation : (old : Tables) (d : ℕ) (inner : Inner old d) (tag : OperationForm) (p : Position) → PositionCarried old p → (y : Term) (text : List ℕ) → IsOperation (IsTree d old) old tag p y text → TreeCarried old (suc d) y
unfolding IsOperation
carried_operation old d inner operation.UnaryOp p pos y text h = step h (λ x1 f1 k1 h1 h. step h (λ x2 f2 k2 h2 h. subst (TreeCarried old (suc d)) (sym h.same) (head d 22 (Operation operation.UnaryOp) p _ (omega arith) refl pos (join _ (carried_unary old x1 _ h1) (last _ (inner x2 _ h2))))))
carried_operation old d inner operation.BinaryOp p pos y text h = step h (λ x1 f1 k1 h1 h. step h (λ x2 f2 k2 h2 h. step h (λ x3 f3 k3 h3 h. subst (TreeCarried old (suc d)) (sym h.same) (head d 23 (Operation operation.BinaryOp) p _ (omega arith) refl pos (join _ (carried_binary old x1 _ h1) (join _ (inner x2 _ h2) (last _ (inner x3 _ h3))))))))
carried_operation old d inner operation.NewArray p pos y text h = step h (λ x1 f1 k1 h1 h. step h (λ x2 f2 k2 h2 h. subst (TreeCarried old (suc d)) (sym h.same) (head d 24 (Operation operation.NewArray) p _ (omega arith) refl pos (join _ (carried_array_reference old x1 _ h1) (last _ (inner x2 _ h2))))))
carried_operation old d inner operation.ArrayValue p pos y text h = step h (λ x1 f1 k1 h1 h. step h (λ x2 f2 k2 h2 h. subst (TreeCarried old (suc d)) (sym h.same) (revalue (suc d) _ _ (λ new. ap (λ (es : Terms). array_value (renumbered_position (number old new) p) x1 es) (renumbered_terms_of (number old new) x2)) (head d 25 (Operation operation.ArrayValue) p _ (omega arith) refl pos (join _ (carried_array_reference old x1 _ h1) (last _ (carried_terms old d inner x2 _ h2)))))))
carried_operation old d inner operation.ArrayLength p pos y text h = step h (λ x1 f1 k1 h1 h. subst (TreeCarried old (suc d)) (sym h.same) (head d 26 (Operation operation.ArrayLength) p _ (omega arith) refl pos (last _ (inner x1 _ h1))))
carried_operation old d inner operation.ArraySelect p pos y text h = step h (λ x1 f1 k1 h1 h. step h (λ x2 f2 k2 h2 h. step h (λ x3 f3 k3 h3 h. subst (TreeCarried old (suc d)) (sym h.same) (head d 27 (Operation operation.ArraySelect) p _ (omega arith) refl pos (join _ (inner x1 _ h1) (join _ (inner x2 _ h2) (last _ (carried_type old x3 _ h3))))))))
carried_operation old d inner operation.IsInstanceOf p pos y text h = step h (λ x1 f1 k1 h1 h. step h (λ x2 f2 k2 h2 h. subst (TreeCarried old (suc d)) (sym h.same) (head d 28 (Operation operation.IsInstanceOf) p _ (omega arith) refl pos (join _ (inner x1 _ h1) (last _ (carried_type old x2 _ h2))))))
carried_operation old d inner operation.AsInstanceOf p pos y text h = step h (λ x1 f1 k1 h1 h. step h (λ x2 f2 k2 h2 h. subst (TreeCarried old (suc d)) (sym h.same) (head d 29 (Operation operation.AsInstanceOf) p _ (omega arith) refl pos (join _ (inner x1 _ h1) (last _ (carried_type old x2 _ h2))))))

carried_form : (old : Tables) (d : ℕ) (inner : Inner old d) (known : Known old) (tag : Form) (p : Position) → PositionCarried old p → (y : Term) (text : List ℕ) → IsForm (IsTree d old) old tag p y text → TreeCarried old (suc d) y
carried_form old d inner known (Leaf tag) p pos y text h = carried_leaf old d tag p pos y text h
carried_form old d inner known (Statement tag) p pos y text h = carried_statement old d inner tag p pos y text h
carried_form old d inner known (Branch tag) p pos y text h = carried_branch old d inner tag p pos y text h
carried_form old d inner known (Call tag) p pos y text h = carried_call old d inner known tag p pos y text h
carried_form old d inner known (Operation tag) p pos y text h = carried_operation old d inner tag p pos y text h

pub carried_tree : (old : Tables) → Known old → (d : ℕ) (y : Term) (text : List ℕ) → IsTree d old y text → TreeCarried old d y
unfolding IsTree
carried_tree old known zero y text h = absurd h.never
carried_tree old known (suc d) y text h =
    step h (λ tag f1 k1 h1 h. step h (λ p f2 k2 h2 h.
    carried_form old d (carried_tree old known d) known tag p (carried_position old p _ h2) y _ h))
