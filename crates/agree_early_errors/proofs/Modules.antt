-- A module of the functions of methods has no early error.
use Rattle.std.proofs.Common.{◌≡◌, ℕ, Bool, true, false, ◌&&◌, ◌||◌, not, List, [], ◌∷◌, ◌++◌, None, map, refl, sym, ap, ◌∙◌, inl, inr, ⊎_elim, Contains}
use Rattle.agree_body_rules.specs.Lookup.{Lookup, own_targets}
use Rattle.std.specs.Prelude.{nat_eq}
use Rattle.std.specs.Cmp.Lexicographic.{pointwise}
use Rattle.std.specs.List.{list_all}
use Rattle.std.proofs.lemmas.List.Elements.{Contains-append_left, Contains-append_right, Contains-push}
use Rattle.js_mean.specs.Proper.{is_among, are_distinct, declared, are_proper, is_proper_item, item_names, is_proper_module}
use Rattle.js_mean.specs.Terms.{Name}
use Rattle.agree_body_rules.specs.Terms as core
use Rattle.agree_body_rules.specs.Desugar.{desugared, desugared_member, completed, body_code, names_of, is_mutable_in, into, result_destination}
use Rattle.agree_body_rules.specs.Members.{with_receiver, member_piece}
use Rattle.agree_body_rules.specs.Names.{variable_name, label_name}
use Rattle.agree_body_rules.specs.Pieces.{piece_of}
use Rattle.agree_body_rules.specs.Templates.{member_name, statement_templates, parameter_names}
use Rattle.agree_early_errors.specs.Once.{DefinesOnce, IsAmong, AreDistinct}
use Rattle.agree_early_errors.proofs.Names.{variables-differ, labels-differ}
use Rattle.sj_mangling.proofs.FunctionNames.{function_names_differ}
use Rattle.sj_names.specs.declared.entry_points.EntryPoint.{EntryPoint}
use Rattle.sj_names.specs.declared.method_names.Namespace.{Namespace}
use Rattle.sj_names.specs.declared.method_names.Namespace.TheVariants.{Public, PublicStatic, Private, PrivateStatic, Constructor}
use Rattle.sj_trees.specs.declared.classes.ParamDef.{ParamDef}
use Rattle.agree_body_rules.specs.Sure.{sure_locals}
use Rattle.agree_body_rules.specs.Locals.{Own, IsParameter}
use Rattle.agree_body_rules.proofs.Equal.{differs}
use Rattle.agree_early_errors.proofs.Declared.{Declares, declares-followed}
use Rattle.sj_names.proofs.Same.{impossible}
use Rattle.agree_early_errors.specs.EmittedMethods.{EmittedMethod, HaveOwnMembers}
use Rattle.agree_early_errors.specs.Emitted.{function_item_of, call_item_of, module_with, IsNamed}
use Rattle.agree_early_errors.proofs.Core.{Distinct, Proper, distinct-followed, proper-followed, distinct-templates, proper-templates, not_again}
use Rattle.agree_early_errors.proofs.Good.{Good}
use Rattle.agree_early_errors.proofs.Trees.{good}

both : (a b : Bool) → a ≡ true → b ≡ true → (a && b) ≡ true
both true b h k = k
both false b h k = h

not_is : (b : Bool) → b ≡ false → not b ≡ true
not_is true h = impossible (sym h)
not_is false h = refl

neither : (a b : Bool) → a ≡ false → b ≡ false → (a || b) ≡ false
neither true b h k = h
neither false b h k = k

parameter-among : (ds : List ParamDef) (x : List ℕ) → IsAmong (names_of ds) x → IsParameter ds x
parameter-among [] x h = h
parameter-among (d ∷ ds) x (inl e) = inl e
parameter-among (d ∷ ds) x (inr h) = inr (parameter-among ds x h)

named-same : (x y : List ℕ) → core.named x ≡ core.named y → x ≡ y
named-same x y e = cc

-- whatever calls of members on receivers run
module _ (lookup : Lookup) where
  abbrev declares_names : core.Statements → List Name
  declares_names ss = declared (statement_templates variable_name label_name lookup ss)

  no_parameter : (x : List ℕ) (ns : List (List ℕ)) (ss : core.Statements) → (IsAmong ns x → ⊥) → (Declares ss (core.named x) → ⊥) → is_among (parameter_names ns ++ declares_names ss) (variable_name (core.named x)) ≡ false
  no_parameter x [] ss h k = not_again variable_name label_name lookup variables-differ labels-differ (core.named x) ss k
  no_parameter x (n ∷ ns) ss h k = neither (pointwise nat_eq (variable_name (core.named x)) (variable_name (core.named n))) (is_among (parameter_names ns ++ declares_names ss) (variable_name (core.named x))) (differs (variable_name (core.named x)) (variable_name (core.named n)) (λ e. h (inl (named-same x n (variables-differ (core.named x) (core.named n) e))))) (no_parameter x ns ss (λ i. h (inr i)) k)

  distinct_names : (ns : List (List ℕ)) (ss : core.Statements) → AreDistinct ns → ((x : List ℕ) → IsAmong ns x → Declares ss (core.named x) → ⊥) → Distinct ss → are_distinct (parameter_names ns ++ declares_names ss) ≡ true
  distinct_names [] ss h k d = distinct-templates variable_name label_name lookup variables-differ labels-differ ss d
  distinct_names (n ∷ ns) ss h k d = both (not (is_among (parameter_names ns ++ declares_names ss) (variable_name (core.named n)))) (are_distinct (parameter_names ns ++ declares_names ss)) (not_is (is_among (parameter_names ns ++ declares_names ss) (variable_name (core.named n))) (no_parameter n ns ss h.0 (k n (inl refl)))) (distinct_names ns ss h.1 (λ x i. k x (inr i)) d)

  -- the function of a method
  function_proper : (e : EmittedMethod) → DefinesOnce e.definition e.its_body → is_proper_item (piece_of lookup e.member (desugared e.definition e.its_body)).item ≡ true
  function_proper e h = both (are_distinct (parameter_names (names_of e.definition.params) ++ declares_names body)) (are_proper (record { labels = []; breakable = false; super_allowed = false }) (statement_templates variable_name label_name lookup body)) (distinct_names (names_of e.definition.params) body h.parameters (λ x i k. h.fresh x (g.fresh (core.named x) k) (parameter-among e.definition.params x i)) g.distinct) (proper-templates variable_name label_name lookup variables-differ labels-differ [] false body g.proper)
    where
      body : core.Statements
      body = (desugared e.definition e.its_body).body

      g : Good (Own e.its_body) [] false 1 (into (is_mutable_in e.definition e.its_body) (sure_locals e.its_body) [] (result_destination e.definition.result) 1 e.its_body)
      g = good (is_mutable_in e.definition e.its_body) (sure_locals e.its_body) e.its_body [] [] [] false (result_destination e.definition.result) 1 h.once (record { has = λ l i k. absurd i; outer = λ l i. i })

  -- a name that no local has, in front of the parameters
  no_receiver : (ns : List (List ℕ)) (ss : core.Statements) → (Declares ss core.receiver → ⊥) → is_among (parameter_names ns ++ declares_names ss) (variable_name core.receiver) ≡ false
  no_receiver [] ss k = not_again variable_name label_name lookup variables-differ labels-differ core.receiver ss k
  no_receiver (n ∷ ns) ss k = neither (pointwise nat_eq (variable_name core.receiver) (variable_name (core.named n))) (is_among (parameter_names ns ++ declares_names ss) (variable_name core.receiver)) (differs (variable_name core.receiver) (variable_name (core.named n)) (λ e. let no : core.receiver ≡ core.named n = variables-differ core.receiver (core.named n) e in absurd (cc))) (no_receiver ns ss k)

  received : (n : Namespace) (ns : List (List ℕ)) (ss : core.Statements) → (Declares ss core.receiver → ⊥) → are_distinct (parameter_names ns ++ declares_names ss) ≡ true → are_distinct (with_receiver n (parameter_names ns) ++ declares_names ss) ≡ true
  received PublicStatic ns ss h k = k
  received PrivateStatic ns ss h k = k
  received Public ns ss h k = both (not (is_among (parameter_names ns ++ declares_names ss) (variable_name core.receiver))) (are_distinct (parameter_names ns ++ declares_names ss)) (not_is (is_among (parameter_names ns ++ declares_names ss) (variable_name core.receiver)) (no_receiver ns ss h)) k
  received Private ns ss h k = both (not (is_among (parameter_names ns ++ declares_names ss) (variable_name core.receiver))) (are_distinct (parameter_names ns ++ declares_names ss)) (not_is (is_among (parameter_names ns ++ declares_names ss) (variable_name core.receiver)) (no_receiver ns ss h)) k
  received Constructor ns ss h k = both (not (is_among (parameter_names ns ++ declares_names ss) (variable_name core.receiver))) (are_distinct (parameter_names ns ++ declares_names ss)) (not_is (is_among (parameter_names ns ++ declares_names ss) (variable_name core.receiver)) (no_receiver ns ss h)) k

  -- what holds of statements that end a constructor or not
  record Ended (own : List ℕ → Type 0) (ss : core.Statements) : Type 0 where
    pub fresh : (x : List ℕ) → Declares ss (core.named x) → own x
    pub unreceived : Declares ss core.receiver → ⊥
    pub distinct : Distinct ss
    pub proper : Proper [] false ss

  ended : (own : List ℕ → Type 0) (n : Namespace) (ss : core.Statements) → Ended own ss → Ended own (completed n ss)
  ended own Public ss h = h
  ended own PublicStatic ss h = h
  ended own Private ss h = h
  ended own PrivateStatic ss h = h
  ended own Constructor ss h = record {
    fresh = λ x d. ⊎_elim (λ i. h.fresh x i) (λ i. ⊎_elim (λ k. absurd k) (λ k. absurd k) i) (declares-followed ss last (core.named x) d);
    unreceived = λ d. ⊎_elim (λ i. h.unreceived i) (λ i. ⊎_elim (λ k. k) (λ k. k) i) (declares-followed ss last core.receiver d);
    distinct = distinct-followed ss last h.distinct ((λ y d e. e), tt) (λ y d e. ⊎_elim (λ k. k) (λ k. k) e);
    proper = proper-followed [] false ss last h.proper (tt, tt);
  }
    where
      last : core.Statements
      last = core.statement (core.return_of None (core.variable_use core.receiver)) core.no_statements

  -- the function of any method
  pub member_proper : (e : EmittedMethod) → DefinesOnce e.definition e.its_body → is_proper_item (member_piece lookup e.member (desugared_member e.definition e.its_body)).item ≡ true
  member_proper e h = both (are_distinct (with_receiver e.definition.namespace (parameter_names (names_of e.definition.params)) ++ declares_names body)) (are_proper (record { labels = []; breakable = false; super_allowed = false }) (statement_templates variable_name label_name lookup body)) (received e.definition.namespace (names_of e.definition.params) body k.unreceived (distinct_names (names_of e.definition.params) body h.parameters (λ x i d. h.fresh x (k.fresh x d) (parameter-among e.definition.params x i)) k.distinct)) (proper-templates variable_name label_name lookup variables-differ labels-differ [] false body k.proper)
    where
      body : core.Statements
      body = (desugared_member e.definition e.its_body).body

      g : Good (Own e.its_body) [] false 1 (into (is_mutable_in e.definition e.its_body) (sure_locals e.its_body) [] (result_destination e.definition.result) 1 e.its_body)
      g = good (is_mutable_in e.definition e.its_body) (sure_locals e.its_body) e.its_body [] [] [] false (result_destination e.definition.result) 1 h.once (record { has = λ l i k. absurd i; outer = λ l i. i })

      k : Ended (Own e.its_body) body
      k = ended (Own e.its_body) e.definition.namespace (body_code (is_mutable_in e.definition e.its_body) e.definition.result e.its_body) (record { fresh = λ x d. g.fresh (core.named x) d; unreceived = λ d. g.fresh core.receiver d; distinct = g.distinct; proper = g.proper })

pub item_proper : (e : EmittedMethod) → DefinesOnce e.definition e.its_body → is_proper_item (function_item_of e) ≡ true
item_proper = function_proper own_targets

-- items, and the names that they declare
pub calls_proper : (is : List EntryPoint) → list_all is_proper_item (map call_item_of is) ≡ true
calls_proper [] = refl
calls_proper (e ∷ is) = calls_proper is

pub calls_named : (is : List EntryPoint) → item_names (map call_item_of is) ≡ []
calls_named [] = refl
calls_named (e ∷ is) = calls_named is

items_proper : (gs : List EmittedMethod) (is : List EntryPoint) → ((e : EmittedMethod) → Contains gs e → is_proper_item (function_item_of e) ≡ true) → list_all is_proper_item (map function_item_of gs ++ map call_item_of is) ≡ true
items_proper [] is h = calls_proper is
items_proper (g ∷ gs) is h = both (is_proper_item (function_item_of g)) (list_all is_proper_item (map function_item_of gs ++ map call_item_of is)) (h g (Contains-append_left (g ∷ []) gs g (Contains-push [] g))) (items_proper gs is (λ e i. h e (Contains-append_right (g ∷ []) gs e i)))

abbrev name_of : EmittedMethod → Name
name_of e = member_name e.member

items_named : (gs : List EmittedMethod) (is : List EntryPoint) → item_names (map function_item_of gs ++ map call_item_of is) ≡ map name_of gs
items_named [] is = calls_named is
items_named (g ∷ gs) is = ap (λ (ns : List Name). name_of g ∷ ns) (items_named gs is)

member-is : (a b : EmittedMethod) → IsNamed a → IsNamed b → name_of a ≡ name_of b → a.member ≡ b.member
member-is a b h k e = let same = function_names_differ a.member.namespace b.member.namespace a.member.class b.member.class a.member.method b.member.method h.class_name k.class_name h.method_name k.method_name e in λ i. record { class = same.1 i; namespace = same.0 i; method = same.2 i }

new_name : (g : EmittedMethod) (gs : List EmittedMethod) → IsNamed g → ((e : EmittedMethod) → Contains gs e → IsNamed e) → ((o : EmittedMethod) → Contains gs o → g.member ≡ o.member → ⊥) → is_among (map name_of gs) (name_of g) ≡ false
new_name g [] h all own = refl
new_name g (c ∷ cs) h all own = neither (pointwise nat_eq (name_of g) (name_of c)) (is_among (map name_of cs) (name_of g)) (differs (name_of g) (name_of c) (λ e. own c first (member-is g c h (all c first) e))) (new_name g cs h (λ e i. all e (Contains-append_right (c ∷ []) cs e i)) (λ o i. own o (Contains-append_right (c ∷ []) cs o i)))
  where
    first : Contains (c ∷ cs) c
    first = Contains-append_left (c ∷ []) cs c (Contains-push [] c)

names_differ : (gs : List EmittedMethod) → ((e : EmittedMethod) → Contains gs e → IsNamed e) → HaveOwnMembers gs → are_distinct (map name_of gs) ≡ true
names_differ [] all own = refl
names_differ (g ∷ gs) all own = both (not (is_among (map name_of gs) (name_of g))) (are_distinct (map name_of gs)) (not_is (is_among (map name_of gs) (name_of g)) (new_name g gs (all g (Contains-append_left (g ∷ []) gs g (Contains-push [] g))) (λ e i. all e (Contains-append_right (g ∷ []) gs e i)) own.0)) (names_differ gs (λ e i. all e (Contains-append_right (g ∷ []) gs e i)) own.1)

pub module_proper : (fs : List EmittedMethod) (es : List EntryPoint) → ((e : EmittedMethod) → Contains fs e → IsNamed e) → HaveOwnMembers fs → is_proper_module (module_with fs es) ≡ true
module_proper fs es all own = both (names && true && true) (list_all is_proper_item (map function_item_of fs ++ map call_item_of es)) (ap (λ b. b && true && true) (ap are_distinct (items_named fs es) ∙ names_differ fs all own)) (items_proper fs es (λ e i. item_proper e (all e i).once))
  where
    names : Bool
    names = are_distinct (item_names (map function_item_of fs ++ map call_item_of es))
