-- A local that is sure where infos are asked for is sure in emitted code: no definition is inside that of a local which it names.
use Rattle.std.proofs.Common.{◌≡◌, ℕ, Bool, true, false, ◌&&◌, ◌||◌, not, List, [], ◌∷◌, ◌++◌, ◌⊎◌, inl, inr, ⊎_elim, Some, None, Option, refl, sym, ap, ◌∙◌, subst, append-nil, map, if◌then◌else◌}
use Rattle.std.proofs.lemmas.Bool.{and_from}
use Rattle.body_uses.proofs.Equal.{differs}
use Rattle.body_uses.proofs.Uses.{or_first, or_second}
use mathlib.Core.Path.{fun_ext}
use Rattle.sj_infos.specs.Sure as infos
use Rattle.sj_infos.specs.Sure.{with_name, with_local, sure_among}
use Rattle.sj_infos.specs.Trees.{trees, all_below as all_trees, cases_below as case_trees}
use Rattle.body_uses.proofs.Distinct.{Has, declares, Fresh, parts, in-left, in-right}
use Rattle.body_uses.proofs.Kept.{AllKeep, innermost-behind}
use Rattle.body_uses.proofs.Methods.{keep, apart, param_declarations}
use Rattle.body_uses.specs.Kept.{KeepsTreeRules}
use Rattle.sj_local.specs.Nodes.{Context, Node, node, inside, in_a_block, with_label, with_local as with_caught, caught, defined, behind, below, statements_below, all_below, cases_below}
use Rattle.sj_local.specs.TreeRules.{last_some, innermost, has_type, breaks_variable, declarations, local_of, outermost}
use Rattle.sj_local.specs.declared.walks.Declaration.{Declaration}
use Rattle.sj_local.specs.declared.walks.Declaration.TheVariants as declaration
use Rattle.sj_local.specs.declared.walks.Local.{Local}
use Rattle.sj_names.proofs.Same.{impossible, text-same, text-refl}
use Rattle.sj_names.specs.Same.{is_same_text}
use Rattle.sj_names.specs.declared.method_names.Namespace.{Namespace}
use Rattle.body_uses.specs.Once.{IsAmong}
use Rattle.sj_trees.specs.Term.{Term, Terms, Cases, no_terms, more_terms, no_cases, more_cases, var_def, block_of, labeled, assign, return_to, if_then, while_loop, do_while, try_catch, try_finally, throw, match_on, new_object, load_module, store_module, select, apply, apply_statically, apply_static, unary_op, binary_op, new_array, array_value, array_length, array_select, is_instance_of, as_instance_of, var_ref, this_ref, null_literal, log_line}
use Rattle.sj_trees.specs.TypeOf.{type_of_term}
use Rattle.sj_trees.specs.declared.classes.ClassDef.{ClassDef}
use Rattle.sj_trees.specs.declared.classes.MethodDef.{MethodDef}
use Rattle.sj_trees.specs.declared.classes.ParamDef.{ParamDef}
use Rattle.sj_trees.specs.declared.positions.Position.{Position}
use Rattle.sj_trees.specs.declared.types.IrType.{IrType}
use Rattle.sure_receivers.specs.Sure as code
use Rattle.sure_receivers.specs.Sure.{Definition, definitions, definitions_in, definitions_of_cases, sure_behind, sure_locals}

or_either : (a b : Bool) → (a || b) ≡ true → (a ≡ true) ⊎ (b ≡ true)
or_either true b h = inl refl
or_either false b h = inr h

-- a tree that is sure for the one is sure for the other, where the local that it may name is
sure_type : (t : IrType) → infos.is_sure_type t ≡ true → code.is_sure_type t ≡ true
sure_type IrType.Undefined h = refl
sure_type IrType.Boolean h = refl
sure_type IrType.Char h = refl
sure_type IrType.Byte h = refl
sure_type IrType.Short h = refl
sure_type IrType.Int h = refl
sure_type IrType.Long h = refl
sure_type IrType.String h = refl
sure_type t h = impossible h

pub sure_tree : (names : List (List ℕ)) (sure : List ℕ → Bool) (t : Term) → ((p : Position) (x : List ℕ) (u : IrType) → t ≡ var_ref p x u → infos.is_among names x ≡ true → sure x ≡ true) → infos.is_sure names t ≡ true → code.is_sure sure t ≡ true
sure_tree names sure (this_ref p t) f h = refl
sure_tree names sure (new_object p c m ts) f h = refl
sure_tree names sure (new_array p r e) f h = refl
sure_tree names sure (array_value p r ts) f h = refl
sure_tree names sure (load_module p c) f h = refl
sure_tree names sure (var_ref p x t) f h = ⊎_elim (λ i. or_first (sure x) (code.is_sure_type t) (f p x t refl i)) (λ i. or_second (sure x) (code.is_sure_type t) (sure_type t i)) (or_either (infos.is_among names x) (infos.is_sure_type t) h)
sure_tree names sure t f h = sure_type (type_of_term t) h

-- the lists one behind the other
among_append : (names : List (List ℕ)) (ts us : List Term) → sure_among names (ts ++ us) ≡ sure_among (sure_among names ts) us
among_append names [] us = refl
among_append names (t ∷ ts) us = among_append (with_local names t) ts us

abbrev one_more : (List ℕ → Bool) → Definition → List ℕ → Bool
one_more sure d y = sure y || (is_same_text y d.name && not d.is_mutable && code.is_sure sure d.value)

behind_append : (sure : List ℕ → Bool) (ds es : List Definition) (x : List ℕ) → sure_behind sure (ds ++ es) x ≡ sure_behind (sure_behind sure ds) es x
behind_append sure [] es x = refl
behind_append sure (d ∷ ds) es x = behind_append (one_more sure d) ds es x

behind_more : (sure : List ℕ → Bool) (ds : List Definition) (x : List ℕ) → sure x ≡ true → sure_behind sure ds x ≡ true
behind_more sure [] x h = h
behind_more sure (d ∷ ds) x h = behind_more (one_more sure d) ds x (or_first (sure x) (is_same_text x d.name && not d.is_mutable && code.is_sure sure d.value) h)

-- behind a further name
any_append : (x : List ℕ) (names more : List (List ℕ)) → infos.is_among (names ++ more) x ≡ true → (infos.is_among names x ≡ true) ⊎ (infos.is_among more x ≡ true)
any_append x [] more h = inr h
any_append x (y ∷ ys) more h = ⊎_elim (λ i. inl (or_first (is_same_text x y) (infos.is_among ys x) i)) (λ i. ⊎_elim (λ j. inl (or_second (is_same_text x y) (infos.is_among ys x) j)) (λ j. inr j) (any_append x ys more i)) (or_either (is_same_text x y) (infos.is_among (ys ++ more) x) h)

one_named : (names : List (List ℕ)) (x y : List ℕ) → infos.is_among (with_name names x) y ≡ true → (infos.is_among names y ≡ true) ⊎ (y ≡ x)
one_named names x y = go (infos.is_among names x)
  where
    last : (infos.is_among names y ≡ true) ⊎ (infos.is_among (x ∷ []) y ≡ true) → (infos.is_among names y ≡ true) ⊎ (y ≡ x)
    last (inl i) = inl i
    last (inr i) = ⊎_elim (λ j. inr (text-same y x j)) (λ j. impossible j) (or_either (is_same_text y x) false i)

    go : (b : Bool) → infos.is_among (if b then names else names ++ x ∷ []) y ≡ true → (infos.is_among names y ≡ true) ⊎ (y ≡ x)
    go true h = inl h
    go false h = last (any_append y names (x ∷ []) h)

-- each tree that reads a local has it in scope
abbrev Reads : List Node → Type 0
Reads [] = Unit {0}
Reads (n ∷ ns) = (breaks_variable n.context.scope n.tree ≡ false) × Reads ns

reads_parts : (xs ys : List Node) → Reads (xs ++ ys) → Reads xs × Reads ys
reads_parts [] ys h = (tt, h)
reads_parts (x ∷ xs) ys h = let r = reads_parts xs ys h.1 in ((h.0, r.0), r.1)

kept_reads : (owner : List ℕ) (space : Namespace) (ns : List Node) → AllKeep owner space ns → Reads ns
kept_reads owner space [] h = tt
kept_reads owner space (n ∷ ns) h = (h.0.variable, kept_reads owner space ns h.1)

-- names that aren't in scope, and that these trees don't declare
abbrev Out : List (List ℕ) → Context → Type 0
Out hidden c = (x : List ℕ) → IsAmong hidden x → innermost c.scope x ≡ None

abbrev Free : List (List ℕ) → List Node → Type 0
Free hidden ns = (x : List ℕ) → IsAmong hidden x → Has (declares ns) (declaration.Local x) → ⊥

-- what these trees declare isn't in scope
abbrev New : Context → List Node → Type 0
New c ns = (x : List ℕ) → Has (declares ns) (declaration.Local x) → innermost c.scope x ≡ None

-- what is sure for the one is sure for the other, or hidden
abbrev Within : List (List ℕ) → List (List ℕ) → (List ℕ → Bool) → Type 0
Within hidden names sure = (x : List ℕ) → infos.is_among names x ≡ true → (sure x ≡ true) ⊎ IsAmong hidden x

-- it stays so behind these trees and definitions
abbrev Step : List (List ℕ) → List Node → List Term → List Definition → Type 0
Step hidden ns ts ds = (names : List (List ℕ)) (sure : List ℕ → Bool) → Free hidden ns → Reads ns → Fresh ns → Within hidden names sure → Within hidden (sure_among names ts) (sure_behind sure ds)

free_left : (hidden : List (List ℕ)) (ns ms : List Node) → Free hidden (ns ++ ms) → Free hidden ns
free_left hidden ns ms f x h i = f x h (in-left ns ms (declaration.Local x) i)

free_right : (hidden : List (List ℕ)) (ns ms : List Node) → Free hidden (ns ++ ms) → Free hidden ms
free_right hidden ns ms f x h i = f x h (in-right ns ms (declaration.Local x) i)

new_left : (c : Context) (ns ms : List Node) → New c (ns ++ ms) → New c ns
new_left c ns ms f x i = f x (in-left ns ms (declaration.Local x) i)

new_right : (c : Context) (ns ms : List Node) → New c (ns ++ ms) → New c ms
new_right c ns ms f x i = f x (in-right ns ms (declaration.Local x) i)

two : (hidden : List (List ℕ)) (ns ms : List Node) (ts us : List Term) (ds es : List Definition) → Step hidden ns ts ds → Step hidden ms us es → Step hidden (ns ++ ms) (ts ++ us) (ds ++ es)
two hidden ns ms ts us ds es f g names sure free reads fresh within x h =
    let r = reads_parts ns ms reads in
    let p = parts ns ms fresh in
    let first = f names sure (free_left hidden ns ms free) r.0 p.0 within in
    let second = g (sure_among names ts) (sure_behind sure ds) (free_right hidden ns ms free) r.1 p.1 first in
    ⊎_elim (λ i. inl (behind_append sure ds es x ∙ i)) (λ i. inr i) (second x (subst (λ (l : List (List ℕ)). infos.is_among l x ≡ true) (among_append names ts us) h))

-- a further local isn't the innermost of another name
other_local : (ls : List Local) (l : Local) (x : List ℕ) → innermost ls x ≡ None → (x ≡ l.name → ⊥) → innermost (ls ++ l ∷ []) x ≡ None
other_local ls l x h n = innermost-behind ls l x ∙ ap (λ (b : Bool). if b then Some l else innermost ls x) (differs x l.name n) ∙ h

behind_none : (t : Term) (ls : List Local) (x : List ℕ) → innermost ls x ≡ None → (Has (declarations t) (declaration.Local x) → ⊥) → innermost (ls ++ defined t) x ≡ None
behind_none (var_def p y t b e) ls x h n = other_local ls (record { name = y; tpe = t; mutable = b }) x h (λ e. n (inl (ap declaration.Local e)))
behind_none t ls x h n = subst (λ (l : List Local). innermost l x ≡ None) (sym (append-nil ls)) h

no_local : (x : List ℕ) (u : IrType) (o : Option Local) → o ≡ None → not (has_type u o) ≡ false → ⊥
no_local x u None e h = impossible (sym h)
no_local x u (Some l) e h = cc

abbrev At : Context → Term → List Node
At c t = node c t ∷ below c t

declares_first : (t : Term) (ds : List Declaration) (d : Declaration) → Has (declarations t) d → Has (declarations t ++ ds) d
declares_first t ds d h = go (declarations t) h
  where
    go : (xs : List Declaration) → Has xs d → Has (xs ++ ds) d
    go [] h = absurd h
    go (x ∷ xs) (inl e) = inl e
    go (x ∷ xs) (inr h) = inr (go xs h)

-- an immutable definition whose right side is sure
defined_sure : (c : Context) (hidden : List (List ℕ)) (x : List ℕ) (e : Term) (names : List (List ℕ)) (sure : List ℕ → Bool) → Out hidden c → breaks_variable c.scope e ≡ false → Within hidden names sure → infos.is_sure names e ≡ true → one_more (sure_behind sure (definitions e)) (record { name = x; is_mutable = false; value = e }) x ≡ true
defined_sure c hidden x e names sure out reads within h =
    let after = sure_behind sure (definitions e) in
    or_second (after x) (is_same_text x x && true && code.is_sure after e) (and_from (is_same_text x x && true) (code.is_sure after e) (and_from (is_same_text x x) true (text-refl x) refl) (sure_tree names after e read h))
  where
    read : (p : Position) (y : List ℕ) (u : IrType) → e ≡ var_ref p y u → infos.is_among names y ≡ true → sure_behind sure (definitions e) y ≡ true
    read p y u same i = ⊎_elim (λ j. behind_more sure (definitions e) y j) (λ j. absurd (no_local y u (innermost c.scope y) (out y j) (subst (λ (t : Term). breaks_variable c.scope t ≡ false) same reads))) (within y i)

-- the local that is being defined is hidden in its right side
hide : (c : Context) (x : List ℕ) (hidden : List (List ℕ)) → Out hidden c → innermost c.scope x ≡ None → Out (x ∷ hidden) c
hide c x hidden out new z (inl e) = subst (λ (v : List ℕ). innermost c.scope v ≡ None) (sym e) new
hide c x hidden out new z (inr n) = out z n

not_declared : (e : Term) (c : Context) (x : List ℕ) (hidden : List (List ℕ)) → ((z : List ℕ) → IsAmong hidden z → Has (declaration.Local x ∷ declares (At c e)) (declaration.Local z) → ⊥) → (Has (declares (At c e)) (declaration.Local x) → ⊥) → Free (x ∷ hidden) (At c e)
not_declared e c x hidden free fresh z (inl same) i = fresh (subst (λ (v : List ℕ). Has (declares (At c e)) (declaration.Local v)) same i)
not_declared e c x hidden free fresh z (inr n) i = free z n (inr i)

hide_named : (hidden names : List (List ℕ)) (x : List ℕ) (sure : List ℕ → Bool) → Within hidden names sure → Within (x ∷ hidden) (with_name names x) sure
hide_named hidden names x sure within z h = ⊎_elim (λ i. ⊎_elim (λ j. inl j) (λ j. inr (inr j)) (within z i)) (λ e. inr (inl e)) (one_named names x z h)

abbrev one_definition : List ℕ → Term → Definition
one_definition x e = record { name = x; is_mutable = false; value = e }

-- what is sure behind an immutable definition, by what is sure behind its right side
defined_walk : (x : List ℕ) (e : Term) (c : Context) (hidden names : List (List ℕ)) (sure : List ℕ → Bool) → Out hidden c → breaks_variable c.scope e ≡ false → Within hidden names sure → (y : List ℕ) (v : Bool) → infos.is_sure names e ≡ v → (infos.is_among (sure_among names (trees e)) y ≡ true → (sure_behind sure (definitions e) y ≡ true) ⊎ IsAmong hidden y) → (infos.is_among (sure_among (with_name names x) (trees e)) y ≡ true → (sure_behind sure (definitions e) y ≡ true) ⊎ IsAmong (x ∷ hidden) y) → infos.is_among (sure_among (if v then with_name names x else names) (trees e)) y ≡ true → (sure_behind sure (definitions e ++ record { name = x; is_mutable = false; value = e } ∷ []) y ≡ true) ⊎ IsAmong hidden y
defined_walk x e c hidden names sure out reads within y v is plain named h = go v is h
  where
    further : sure_behind sure (definitions e) y ≡ true → sure_behind sure (definitions e ++ one_definition x e ∷ []) y ≡ true
    further i = behind_append sure (definitions e) (one_definition x e ∷ []) y ∙ or_first (sure_behind sure (definitions e) y) (is_same_text y x && true && code.is_sure (sure_behind sure (definitions e)) e) i

    itself : infos.is_sure names e ≡ true → y ≡ x → sure_behind sure (definitions e ++ one_definition x e ∷ []) y ≡ true
    itself s same = behind_append sure (definitions e) (one_definition x e ∷ []) y ∙ subst (λ (z : List ℕ). one_more (sure_behind sure (definitions e)) (one_definition x e) z ≡ true) (sym same) (defined_sure c hidden x e names sure out reads within s)

    hidden_or : infos.is_sure names e ≡ true → (sure_behind sure (definitions e) y ≡ true) ⊎ IsAmong (x ∷ hidden) y → (sure_behind sure (definitions e ++ one_definition x e ∷ []) y ≡ true) ⊎ IsAmong hidden y
    hidden_or s (inl i) = inl (further i)
    hidden_or s (inr (inl same)) = inl (itself s same)
    hidden_or s (inr (inr n)) = inr n

    go : (v : Bool) → infos.is_sure names e ≡ v → infos.is_among (sure_among (if v then with_name names x else names) (trees e)) y ≡ true → (sure_behind sure (definitions e ++ one_definition x e ∷ []) y ≡ true) ⊎ IsAmong hidden y
    go true is h = hidden_or is (named h)
    go false is h = ⊎_elim (λ i. inl (further i)) (λ i. inr i) (plain h)

-- what is caught isn't sure, so it adds nothing to what is
caught_adds : (sure : List ℕ → Bool) (p : Position) (x y : List ℕ) → one_more sure (record { name = x; is_mutable = false; value = null_literal p }) y ≡ sure y
caught_adds sure p x y = go (sure y) (is_same_text y x)
  where
    go : (a b : Bool) → (a || (b && true && false)) ≡ a
    go true b = refl
    go false true = refl
    go false false = refl

caught_behind : (p : Position) (x : List ℕ) (sure : List ℕ → Bool) (ds es : List Definition) (y : List ℕ) → sure_behind sure (ds ++ record { name = x; is_mutable = false; value = null_literal p } ∷ es) y ≡ sure_behind sure (ds ++ es) y
caught_behind p x sure ds es y = behind_append sure ds (record { name = x; is_mutable = false; value = null_literal p } ∷ es) y ∙ ap (λ (s : List ℕ → Bool). sure_behind s es y) (fun_ext (caught_adds (sure_behind sure ds) p x)) ∙ sym (behind_append sure ds es y)

caught_walk : (p : Position) (x : List ℕ) (a b : Term) (sure : List ℕ → Bool) (hidden names : List (List ℕ)) → ((y : List ℕ) → infos.is_among names y ≡ true → (sure_behind sure (definitions a ++ definitions b) y ≡ true) ⊎ IsAmong hidden y) → (y : List ℕ) → infos.is_among names y ≡ true → (sure_behind sure (definitions a ++ record { name = x; is_mutable = false; value = null_literal p } ∷ definitions b) y ≡ true) ⊎ IsAmong hidden y
caught_walk p x a b sure hidden names walked y h = ⊎_elim (λ i. inl (caught_behind p x sure (definitions a) (definitions b) y ∙ i)) (λ i. inr i) (walked y h)

-- two trees one behind the other, and a receiver with arguments
walk_two : (a b : Term) (c : Context) (hidden : List (List ℕ)) → New c (At c a ++ At c b) → (New c (At c a) → Step hidden (At c a) (trees a) (definitions a)) → (New c (At c b) → Step hidden (At c b) (trees b) (definitions b)) → Step hidden (At c a ++ At c b) (trees a ++ trees b) (definitions a ++ definitions b)
walk_two a b c hidden new f g = two hidden (At c a) (At c b) (trees a) (trees b) (definitions a) (definitions b) (f (new_left c (At c a) (At c b) new)) (g (new_right c (At c a) (At c b) new))

walk_call : (e : Term) (ts : Terms) (c : Context) (hidden : List (List ℕ)) → New c (At c e ++ all_below c ts) → (New c (At c e) → Step hidden (At c e) (trees e) (definitions e)) → (New c (all_below c ts) → Step hidden (all_below c ts) (all_trees ts) (definitions_in ts)) → Step hidden (At c e ++ all_below c ts) (trees e ++ all_trees ts) (definitions e ++ definitions_in ts)
walk_call e ts c hidden new f g = two hidden (At c e) (all_below c ts) (trees e) (all_trees ts) (definitions e) (definitions_in ts) (f (new_left c (At c e) (all_below c ts) new)) (g (new_right c (At c e) (all_below c ts) new))

mutual
  walk : (t : Term) (c : Context) (hidden : List (List ℕ)) → Out hidden c → New c (At c t) → Step hidden (At c t) (trees t) (definitions t)
  walk (var_def p x t true e) c hidden out new names sure free reads fresh within = λ y h.
      let d : Definition = record { name = x; is_mutable = true; value = e } in
      ⊎_elim (λ i. inl (behind_append sure (definitions e) (d ∷ []) y ∙ or_first (sure_behind sure (definitions e) y) (is_same_text y x && false && code.is_sure (sure_behind sure (definitions e)) e) i)) (λ i. inr i) (walk e c hidden out (λ z n. new z (inr n)) names sure (λ z n i. free z n (inr i)) reads.1 fresh.1 within y h)
  walk (var_def p x t false e) c hidden out new names sure free reads fresh within = λ y h. defined_walk x e c hidden names sure out reads.1.0 within y (infos.is_sure names e) refl (walk e c hidden out (λ z n. new z (inr n)) names sure (λ z n j. free z n (inr j)) reads.1 fresh.1 within y) (walk e c (x ∷ hidden) (hide c x hidden out (new x (inl refl))) (λ z n. new z (inr n)) (with_name names x) sure (not_declared e c x hidden free fresh.0) reads.1 fresh.1 (hide_named hidden names x sure within) y) h
  walk (block_of p ts) c hidden out new names sure free reads fresh within = walk_statements ts (in_a_block c) hidden out new names sure free reads.1 fresh within
  walk (labeled p l t e) c hidden out new names sure free reads fresh within = walk e (with_label l c) hidden out (λ z n. new z (inr n)) names sure (λ z n i. free z n (inr i)) reads.1 fresh.1 within
  walk (assign p a b) c hidden out new names sure free reads fresh within = walk_two a b c hidden new (walk a c hidden out) (walk b c hidden out) names sure free reads.1 fresh within
  walk (return_to p e l) c hidden out new names sure free reads fresh within = walk e c hidden out new names sure free reads.1 fresh within
  walk (if_then p a b d t) c hidden out new names sure free reads fresh within = two hidden (At c a ++ At c b) (At c d) (trees a ++ trees b) (trees d) (definitions a ++ definitions b) (definitions d) (walk_two a b c hidden (new_left c (At c a ++ At c b) (At c d) new) (walk a c hidden out) (walk b c hidden out)) (walk d c hidden out (new_right c (At c a ++ At c b) (At c d) new)) names sure free reads.1 fresh within
  walk (while_loop p a b) c hidden out new names sure free reads fresh within = walk_two a b c hidden new (walk a c hidden out) (walk b c hidden out) names sure free reads.1 fresh within
  walk (do_while p a b) c hidden out new names sure free reads fresh within = walk_two a b c hidden new (walk a c hidden out) (walk b c hidden out) names sure free reads.1 fresh within
  walk (try_catch p a x b t) c hidden out new names sure free reads fresh within =
      let d : Context = with_caught (caught x) c in
      caught_walk p x a b sure hidden (sure_among names (trees a ++ trees b)) (two hidden (At c a) (At d b) (trees a) (trees b) (definitions a) (definitions b) (walk a c hidden out (λ z n. new z (inr (in-left (At c a) (At d b) (declaration.Local z) n)))) (walk b d hidden (λ z n. other_local c.scope (caught x) z (out z n) (λ e. free z n (inl (ap declaration.Local e)))) (λ z n. other_local c.scope (caught x) z (new z (inr (in-right (At c a) (At d b) (declaration.Local z) n))) (λ e. fresh.0 (subst (λ (v : List ℕ). Has (declares (At c a ++ At d b)) (declaration.Local v)) e (in-right (At c a) (At d b) (declaration.Local z) n))))) names sure (λ z n i. free z n (inr i)) reads.1 fresh.1 within)
  walk (try_finally p a b) c hidden out new names sure free reads fresh within = walk_two a b c hidden new (walk a c hidden out) (walk b c hidden out) names sure free reads.1 fresh within
  walk (throw p e) c hidden out new names sure free reads fresh within = walk e c hidden out new names sure free reads.1 fresh within
  walk (match_on p e cs d t) c hidden out new names sure free reads fresh within =
      let first = new_left c (At c e ++ cases_below c cs) (At c d) new in
      two hidden (At c e ++ cases_below c cs) (At c d) (trees e ++ case_trees cs) (trees d) (definitions e ++ definitions_of_cases cs) (definitions d) (two hidden (At c e) (cases_below c cs) (trees e) (case_trees cs) (definitions e) (definitions_of_cases cs) (walk e c hidden out (new_left c (At c e) (cases_below c cs) first)) (walk_cases cs c hidden out (new_right c (At c e) (cases_below c cs) first))) (walk d c hidden out (new_right c (At c e ++ cases_below c cs) (At c d) new)) names sure free reads.1 fresh within
  walk (new_object p k m ts) c hidden out new names sure free reads fresh within = walk_all ts c hidden out new names sure free reads.1 fresh within
  walk (store_module p k e) c hidden out new names sure free reads fresh within = walk e c hidden out new names sure free reads.1 fresh within
  walk (select p e k f t) c hidden out new names sure free reads fresh within = walk e c hidden out new names sure free reads.1 fresh within
  walk (apply p e m ts t) c hidden out new names sure free reads fresh within = walk_call e ts c hidden new (walk e c hidden out) (walk_all ts c hidden out) names sure free reads.1 fresh within
  walk (apply_statically p e k n m ts t) c hidden out new names sure free reads fresh within = walk_call e ts c hidden new (walk e c hidden out) (walk_all ts c hidden out) names sure free reads.1 fresh within
  walk (apply_static p k n m ts t) c hidden out new names sure free reads fresh within = walk_all ts c hidden out new names sure free reads.1 fresh within
  walk (unary_op p o e) c hidden out new names sure free reads fresh within = walk e c hidden out new names sure free reads.1 fresh within
  walk (binary_op p o a b) c hidden out new names sure free reads fresh within = walk_two a b c hidden new (walk a c hidden out) (walk b c hidden out) names sure free reads.1 fresh within
  walk (new_array p r e) c hidden out new names sure free reads fresh within = walk e c hidden out new names sure free reads.1 fresh within
  walk (array_value p r ts) c hidden out new names sure free reads fresh within = walk_all ts c hidden out new names sure free reads.1 fresh within
  walk (array_length p e) c hidden out new names sure free reads fresh within = walk e c hidden out new names sure free reads.1 fresh within
  walk (array_select p a b t) c hidden out new names sure free reads fresh within = walk_two a b c hidden new (walk a c hidden out) (walk b c hidden out) names sure free reads.1 fresh within
  walk (is_instance_of p e t) c hidden out new names sure free reads fresh within = walk e c hidden out new names sure free reads.1 fresh within
  walk (as_instance_of p e t) c hidden out new names sure free reads fresh within = walk e c hidden out new names sure free reads.1 fresh within
  walk (log_line p e) c hidden out new names sure free reads fresh within = walk e c hidden out new names sure free reads.1 fresh within
  walk _ c hidden out new names sure free reads fresh within = within

  walk_all : (ts : Terms) (c : Context) (hidden : List (List ℕ)) → Out hidden c → New c (all_below c ts) → Step hidden (all_below c ts) (all_trees ts) (definitions_in ts)
  walk_all no_terms c hidden out new names sure free reads fresh within = within
  walk_all (more_terms t ts) c hidden out new names sure free reads fresh within = two hidden (At c t) (all_below c ts) (trees t) (all_trees ts) (definitions t) (definitions_in ts) (walk t c hidden out (new_left c (At c t) (all_below c ts) new)) (walk_all ts c hidden out (new_right c (At c t) (all_below c ts) new)) names sure free reads fresh within

  walk_cases : (cs : Cases) (c : Context) (hidden : List (List ℕ)) → Out hidden c → New c (cases_below c cs) → Step hidden (cases_below c cs) (case_trees cs) (definitions_of_cases cs)
  walk_cases no_cases c hidden out new names sure free reads fresh within = within
  walk_cases (more_cases ks t cs) c hidden out new names sure free reads fresh within = two hidden (At c t) (cases_below c cs) (trees t) (case_trees cs) (definitions t) (definitions_of_cases cs) (walk t c hidden out (new_left c (At c t) (cases_below c cs) new)) (walk_cases cs c hidden out (new_right c (At c t) (cases_below c cs) new)) names sure free reads fresh within

  walk_statements : (ts : Terms) (c : Context) (hidden : List (List ℕ)) → Out hidden c → New c (statements_below c ts) → Step hidden (statements_below c ts) (all_trees ts) (definitions_in ts)
  walk_statements no_terms c hidden out new names sure free reads fresh within = within
  walk_statements (more_terms t ts) c hidden out new names sure free reads fresh within =
      let rest = statements_below (behind t c) ts in
      let own = At (inside c) t in
      two hidden own rest (trees t) (all_trees ts) (definitions t) (definitions_in ts) (walk t (inside c) hidden out (new_left (inside c) own rest new)) (walk_statements ts (behind t c) hidden (λ z n. behind_none t c.scope z (out z n) (λ i. free z n (in-left own rest (declaration.Local z) (declares_first t (declares (below (inside c) t)) (declaration.Local z) i)))) (λ z n. behind_none t c.scope z (new z (in-right own rest (declaration.Local z) n)) (λ i. (parts own rest fresh).2 (declaration.Local z) (declares_first t (declares (below (inside c) t)) (declaration.Local z) i) n))) names sure free reads fresh within

param_none : (ps : List ParamDef) (x : List ℕ) → (Has (param_declarations ps) (declaration.Local x) → ⊥) → innermost (map local_of ps) x ≡ None
param_none [] x h = refl
param_none (p ∷ ps) x h = (λ i. last_some (if differs x p.name (λ e. h (inl (ap declaration.Local e))) i then Some (local_of p) else None) (param_none ps x (λ n. h (inr n)) i))

-- in a method that keeps the rules on trees, a local that is sure where infos are asked for is sure in emitted code
pub sure_kept : (c : ClassDef) (d : MethodDef) (e : Term) → d.body ≡ Some e → KeepsTreeRules c d → (x : List ℕ) → infos.is_among (sure_among [] (trees e)) x ≡ true → sure_locals e x ≡ true
sure_kept c d e body kept x h =
    let a = apart c d e body kept in
    let new : New (outermost d) (At (outermost d) e) = λ z n. param_none d.params z (λ i. a.2 (declaration.Local z) i n) in
    ⊎_elim (λ i. i) (λ i. absurd i) (walk e (outermost d) [] (λ z n. absurd n) new [] (λ z. false) (λ z n i. n) (kept_reads c.name d.namespace (At (outermost d) e) (keep c d e body kept)) a.1 (λ z n. impossible n) x h)
