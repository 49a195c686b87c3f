-- What stands among the members of a class under the name of a method entry.
use Rattle.std.specs.Prelude.{is_none, ◌≢◌, ◌↔◌, is_some, codes}
use Rattle.std.proofs.Common.{◌≡◌, ℕ, zero, suc, Bool, true, false, List, [], ◌∷◌, map, Contains, slice_get, Option, Some, None, refl, sym, ap, ◌∙◌, subst, cond}
use Rattle.std.proofs.lemmas.Slice.Eq.{bytes_eq-Decides}
use Rattle.std.proofs.lemmas.List.{append_cancel_left}
use Rattle.js_tree.specs.Names.{is_same_text}
use Rattle.js_tree.specs.Terms.{Name, call_of, expression, this_use}
use Rattle.sj_names.specs.declared.method_names.MethodName.{MethodName}
use Rattle.sj_names.specs.declared.method_names.Member.{Member}
use Rattle.sj_names.specs.declared.references.TypeRef.{TypeRef}
use Rattle.sj_names.specs.MethodNames.{spelled_method, IsMethodName}
use Rattle.sj_mangling.specs.Mangling.{mangled}
use Rattle.sj_mangling.proofs.Injective.{mangled_texts_differ}
use Rattle.entry_search.specs.Fact.{Fact}
use Rattle.entry_search.specs.MethodEntry.{MethodEntry}
use Rattle.entry_search.specs.Known.{Classes, is_same}
use Rattle.entry_search.proofs.Searches.{stands_at, contains_at}
use Rattle.entry_search.specs.Rules.{public_member}
use Rattle.entry_search.specs.Entries.{AreEntries}
use Rattle.entry_search.specs.Dispatch.{IsReachedTarget}
use Rattle.entry_search.specs.Search.{is_for, entry_for}
use Rattle.entry_search.specs.Laws.{AreSpelled}
use Rattle.entry_search.proofs.Found.{same_method, Found, entry_found, entry_none, is_for_itself, is_direct, same_target}
use Rattle.js_mean.specs.Classes.{or_code, method_among}
use Rattle.js_mean.specs.Meaning.{Code}
use Rattle.class_code.specs.Bridges.{bridge}
use Rattle.entry_search.specs.Words.{uses, entry_name, public_function, parameters_of, only_return}
use Rattle.entry_search.specs.Templates.{member_name}
use Rattle.class_code.proofs.Bridge.{same_text}
use Rattle.entry_search.specs.Pieces.{entry_member, direct_call, proxy_call, is_proxy}

same_is : (a b : Name) → is_same_text a b ≡ true → a ≡ b
same_is a b = (bytes_eq-Decides a b).0

abbrev pub entry_code : MethodEntry → Code
entry_code e = record { parameters = parameters_of e.name; body = only_return (cond (is_proxy e) (proxy_call e) (direct_call e)) }

-- the member of an entry that is found under a name
pub record HasCode (es : List MethodEntry) (x : Name) (code : Code) : Type 0 where
  pub entry : MethodEntry
  pub among : Contains es entry
  pub name_is : entry_name entry.name ≡ x
  pub code_is : code ≡ entry_code entry

later : (e : MethodEntry) (es : List MethodEntry) (x : Name) (code : Code) → HasCode es x code → HasCode (e ∷ es) x code
later e es x code h = record { entry = h.entry; among = contains_at (e ∷ es) (suc h.among.0) h.entry (stands_at es h.entry h.among); name_is = h.name_is; code_is = h.code_is }

pub code_found : (es : List MethodEntry) (x : Name) (code : Code) → method_among (map entry_member es) x ≡ Some code → HasCode es x code
code_found [] x code h = cc
code_found (e ∷ es) x code h = go (code_found es x) (method_among (map entry_member es) x) refl (is_same_text x (entry_name e.name)) refl
  where
    abbrev_here : Bool → Option Code
    abbrev_here b = cond b (Some (entry_code e)) None

    whole : (o : Option Code) → method_among (map entry_member es) x ≡ o → (b : Bool) → is_same_text x (entry_name e.name) ≡ b → or_code o (abbrev_here b) ≡ Some code
    whole o f b g = sym (ap (λ (q : Option Code). or_code q (abbrev_here b)) f) ∙ sym (ap (λ (c : Bool). or_code (method_among (map entry_member es) x) (abbrev_here c)) g) ∙ h

    go : ((d : Code) → method_among (map entry_member es) x ≡ Some d → HasCode es x d) → (o : Option Code) → method_among (map entry_member es) x ≡ o → (b : Bool) → is_same_text x (entry_name e.name) ≡ b → HasCode (e ∷ es) x code
    go rest (Some d) f b g = later e es x code (rest code (f ∙ whole (Some d) f b g))
    go rest None f true g = let s : Some (entry_code e) ≡ Some code = whole None f true g in let t : entry_code e ≡ code = cc in record { entry = e; among = contains_at (e ∷ es) 0 e refl; name_is = sym (same_is x (entry_name e.name) g); code_is = sym t }
    go rest None f false g = let s : None ≡ Some code = whole None f false g in cc

or_some : (o : Option Code) (c : Code) → is_some (or_code o (Some c)) ≡ true
or_some None c = refl
or_some (Some d) c = refl

or_left : (o q : Option Code) → is_some o ≡ true → is_some (or_code o q) ≡ true
or_left None q h = cc
or_left (Some d) q h = refl

pub code_there : (es : List MethodEntry) (i : ℕ) (e : MethodEntry) (x : Name) → slice_get es i ≡ Some e → entry_name e.name ≡ x → is_some (method_among (map entry_member es) x) ≡ true
code_there [] i e x at h = cc
code_there (d ∷ es) zero e x at h =
    let s : d ≡ e = cc in
    let t : is_same_text x (entry_name d.name) ≡ true = ap (λ (z : MethodEntry). is_same_text x (entry_name z.name)) s ∙ ap (is_same_text x) h ∙ same_text x in
    ap (λ (b : Bool). is_some (or_code (method_among (map entry_member es) x) (cond b (Some (entry_code d)) None))) t ∙ or_some (method_among (map entry_member es) x) (entry_code d)
code_there (d ∷ es) (suc i) e x at h = or_left (method_among (map entry_member es) x) (cond (is_same_text x (entry_name d.name)) (Some (entry_code d)) None) (code_there es i e x at h)

-- a name that has an entry's name
pub same_name_of : (a b : MethodName) → entry_name a ≡ entry_name b → spelled_method a ≡ spelled_method b
same_name_of a b e = mangled_texts_differ (spelled_method a) (spelled_method b) (append_cancel_left (codes "m_") (mangled (spelled_method a)) (mangled (spelled_method b)) e)

pub no_proxy : (m : MethodName) → m.result ≢ None → (e : MethodEntry) → e.name ≡ m → is_proxy e ≡ false
no_proxy m direct e h = go m.result refl
  where
    go : (o : Option TypeRef) → m.result ≡ o → is_proxy e ≡ false
    go None f = absurd (direct f)
    go (Some t) f = ap (λ (o : Option TypeRef). is_none o) (ap (λ (z : MethodName). z.result) h ∙ f)

-- these are the entries of the class
abbrev pub AreOwn : List MethodEntry → Name → List MethodEntry → Type 0
AreOwn es c own = (e : MethodEntry) → Contains own e ↔ (Contains es e × (e.class ≡ c))

module _ (w : Classes) (facts : List Fact) (es : List MethodEntry) (are : AreEntries w facts es) (spelled : AreSpelled es) (m : MethodName) (m_is : IsMethodName m) (m_direct : m.result ≢ None) (owner : Name) where
  abbrev x : Name
  x = entry_name m

  -- the entries of a class under this name
  named_m : (c : Name) (own : List MethodEntry) → AreOwn es c own → (code : Code) → HasCode own x code → (e : MethodEntry) × (Contains es e) × (e.class ≡ c) × (e.name ≡ m) × (code ≡ entry_code e)
  named_m c own exact code h =
      let both = (exact h.entry).0 h.among in
      let named = spelled.spelled h.entry both.0 in
      (h.entry, both.0, both.1, same_method h.entry.name m named m_is (ap (is_same (spelled_method h.entry.name)) (sym (same_name_of h.entry.name m h.name_is)) ∙ same_text (spelled_method h.entry.name)), h.code_is)

  -- where the class has no entry it has no method
  pub no_member : (c : Name) (own : List MethodEntry) → AreOwn es c own → entry_for es c m ≡ None → method_among (map entry_member own) x ≡ None
  no_member c own exact none = go (method_among (map entry_member own) x) refl
    where
      go : (o : Option Code) → method_among (map entry_member own) x ≡ o → method_among (map entry_member own) x ≡ None
      go None f = f
      go (Some d) f =
          let k = named_m c own exact d (code_found own x d f) in
          absurd (entry_none c m es none k.1.0 k.0 (stands_at es k.0 k.1) (subst (λ (z : Name). is_for c m (record { class = z; name = k.0.name; target = k.0.target }) ≡ true) (sym k.2) (subst (λ (z : MethodName). is_for c m (record { class = c; name = z; target = k.0.target }) ≡ true) (sym k.3) (is_for_itself c m k.0.target))))

  bridge_code : (e : MethodEntry) → e.name ≡ m → e.target ≡ public_member owner m → entry_code e ≡ bridge (public_function owner m) (parameters_of m)
  bridge_code e h k = ap (λ (b : Bool). record { parameters = parameters_of e.name; body = only_return (cond b (proxy_call e) (direct_call e)) }) (no_proxy m m_direct e h) ∙ (λ i. record { parameters = parameters_of (h i); body = only_return (call_of (member_name (k i)) (expression this_use (uses (parameters_of (h i))))) })

  -- where it has one, the method hands its call on to the function of the target
  pub some_member : (c : Name) (own : List MethodEntry) → AreOwn es c own → IsReachedTarget w facts c m owner → (k : Member) → entry_for es c m ≡ Some k → method_among (map entry_member own) x ≡ Some (bridge (public_function owner m) (parameters_of m))
  some_member c own exact t k there = go (method_among (map entry_member own) x) refl
    where
      f : Found es c m k
      f = entry_found c m m_is es spelled.spelled k there

      there_is : is_some (method_among (map entry_member own) x) ≡ true
      there_is = let a = (exact f.entry).1 (f.among, f.class_is) in code_there own a.0 f.entry x (stands_at own f.entry a) (ap entry_name f.name_is)

      go : (o : Option Code) → method_among (map entry_member own) x ≡ o → method_among (map entry_member own) x ≡ Some (bridge (public_function owner m) (parameters_of m))
      go None g = let s : false ≡ true = sym (ap is_some g) ∙ there_is in cc
      go (Some d) g =
          let j = named_m c own exact d (code_found own x d g) in
          let dir = is_direct w facts es are spelled m m_is m_direct c j.0.target (record { entry = j.0; among = j.1; class_is = j.2; name_is = j.3; target_is = refl }) in
          let o : dir.owner ≡ owner = same_target w facts es are spelled m m_is m_direct owner c dir.owner t.is_target dir.is_entry.is_target in
          g ∙ ap Some (j.4 ∙ bridge_code j.0 j.3 (dir.member_is ∙ ap (λ (z : Name). public_member z m) o))

  -- an entry's own target
  pub target_of_entry : (c : Name) (k : Member) → entry_for es c m ≡ Some k → k ≡ public_member owner m → IsReachedTarget w facts c m owner
  target_of_entry c k e i =
      let d = is_direct w facts es are spelled m m_is m_direct c k (entry_found c m m_is es spelled.spelled k e) in
      let o : d.owner ≡ owner = ap (λ (z : Member). z.class) (sym d.member_is ∙ i) in
      subst (λ (z : Name). IsReachedTarget w facts c m z) o (record { is_target = d.is_entry.is_target; reached = d.is_entry.reached })
