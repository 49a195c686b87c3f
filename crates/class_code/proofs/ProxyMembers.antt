-- What stands among the members of a class under the name of an entry of a reflective name.
use Rattle.std.specs.Prelude.{is_none, is_some}
use Rattle.std.proofs.Common.{◌≡◌, Bool, true, false, List, map, Contains, Option, Some, None, refl, sym, ap, ◌∙◌, subst, cond}
use Rattle.js_tree.specs.Terms.{Name, this_use, method_call_of}
use Rattle.sj_names.specs.declared.method_names.MethodName.{MethodName}
use Rattle.sj_names.specs.declared.method_names.Member.{Member}
use Rattle.sj_names.specs.MethodNames.{spelled_method, IsMethodName}
use Rattle.entry_search.specs.Fact.{Fact}
use Rattle.entry_search.specs.MethodEntry.{MethodEntry}
use Rattle.entry_search.specs.Known.{Classes, is_same}
use Rattle.entry_search.proofs.Reflective.{without_result}
use Rattle.entry_search.proofs.Searches.{stands_at}
use Rattle.entry_search.specs.Rules.{public_member}
use Rattle.entry_search.specs.Entries.{AreEntries, IsMethodEntry, direct, proxy, IsProxy, IsTarget}
use Rattle.entry_search.specs.Laws.{AreSpelled}
use Rattle.entry_search.proofs.Found.{same_method}
use Rattle.js_mean.specs.Classes.{method_among}
use Rattle.js_mean.specs.Meaning.{Code}
use Rattle.entry_search.specs.Words.{uses, entry_name, parameters_of, only_return}
use Rattle.class_code.proofs.Bridge.{same_text}
use Rattle.class_code.proofs.Members.{AreOwn, HasCode, entry_code, code_found, code_there, same_name_of}
use Rattle.entry_search.specs.Pieces.{entry_member, direct_call, proxy_call, boxed_result}

-- `return this.m_t(a0, ..);`, a char as an object that holds it
abbrev pub handed_on : MethodName → MethodName → Code
handed_on p t = record { parameters = parameters_of p; body = only_return (boxed_result t (method_call_of this_use (entry_name t) (uses (parameters_of p)))) }

module _ (w : Classes) (facts : List Fact) (es : List MethodEntry) (are : AreEntries w facts es) (spelled : AreSpelled es) (p : MethodName) (p_is : IsMethodName p) (untargeted : (c owner : Name) → IsTarget w c p owner → ⊥) where
  abbrev x : Name
  x = entry_name p

  -- an entry of the class under the name, which is that of the reflective name
  record Entered (c : Name) (code : Code) : Type 0 where
    entry : MethodEntry
    among : Contains es entry
    class_is : entry.class ≡ c
    name_is : entry.name ≡ p
    code_is : code ≡ entry_code entry

  entered : (c : Name) (own : List MethodEntry) → AreOwn es c own → (code : Code) → HasCode own x code → Entered c code
  entered c own exact code h =
      let both = (exact h.entry).0 h.among in
      record {
        entry = h.entry;
        among = both.0;
        class_is = both.1;
        name_is = same_method h.entry.name p (spelled.spelled h.entry both.0) p_is (ap (is_same (spelled_method h.entry.name)) (sym (same_name_of h.entry.name p h.name_is)) ∙ same_text (spelled_method h.entry.name));
        code_is = h.code_is;
      }

  -- it stands for a method that a reflective call on the class reaches
  record Proxied (c : Name) (k : Member) : Type 0 where
    method : MethodName
    member_is : k ≡ public_member c method
    is_entry : IsProxy w facts c p method

  is_proxied : (c : Name) (e : MethodEntry) → Contains es e → e.class ≡ c → e.name ≡ p → Proxied c e.target
  is_proxied c e among class_is name_is = go e class_is name_is ((are.exact e).0 among)
    where
      go : (e : MethodEntry) → e.class ≡ c → e.name ≡ p → IsMethodEntry w facts e → Proxied c e.target
      go _ class_is name_is (direct d owner n h) = absurd (untargeted d owner (subst (λ (m : MethodName). IsTarget w d m owner) name_is h.is_target))
      go _ class_is name_is (proxy d q t h) = record {
        method = t;
        member_is = ap (λ (n : Name). public_member n t) class_is;
        is_entry = subst (λ (n : Name). IsProxy w facts n p t) class_is (subst (λ (m : MethodName). IsProxy w facts d m t) name_is h);
      }

  -- where a reflective call on the class reaches nothing, or none is made, it has no method of the name
  pub no_proxy_member : (c : Name) (own : List MethodEntry) → AreOwn es c own → ((t : MethodName) → IsProxy w facts c p t → ⊥) → method_among (map entry_member own) x ≡ None
  no_proxy_member c own exact none = go (method_among (map entry_member own) x) refl
    where
      go : (o : Option Code) → method_among (map entry_member own) x ≡ o → method_among (map entry_member own) x ≡ None
      go None f = f
      go (Some d) f =
          let k = entered c own exact d (code_found own x d f) in
          let q = is_proxied c k.entry k.among k.class_is k.name_is in
          absurd (none q.method q.is_entry)

  handed_code : (e : MethodEntry) (t : MethodName) → e.name ≡ p → e.target.method ≡ t → p.result ≡ None → entry_code e ≡ handed_on p t
  handed_code e t named method_is bare =
      ap (λ (b : Bool). record { parameters = parameters_of e.name; body = only_return (cond b (proxy_call e) (direct_call e)) }) (ap (λ (m : MethodName). is_none m.result) named ∙ ap is_none bare)
      ∙ (λ i. record { parameters = parameters_of (named i); body = only_return (boxed_result (method_is i) (method_call_of this_use (entry_name (method_is i)) (uses (parameters_of (named i))))) })

  -- a class that is made hands a reflective call on to its entry of what the call reaches, where all that it reaches has one name
  pub some_proxy_member : (c : Name) (own : List MethodEntry) → AreOwn es c own → (t : MethodName) → IsProxy w facts c p t → ((u : MethodName) → IsProxy w facts c p u → u ≡ t) → method_among (map entry_member own) x ≡ Some (handed_on p t)
  some_proxy_member c own exact t h one = go (method_among (map entry_member own) x) refl
    where
      its : MethodEntry
      its = record { class = c; name = p; target = public_member c t }

      there : is_some (method_among (map entry_member own) x) ≡ true
      there = let a = (exact its).1 ((are.exact its).1 (proxy c p t h), refl) in code_there own a.0 its x (stands_at own its a) refl

      go : (o : Option Code) → method_among (map entry_member own) x ≡ o → method_among (map entry_member own) x ≡ Some (handed_on p t)
      go None g = let s : false ≡ true = sym (ap is_some g) ∙ there in cc
      go (Some d) g =
          let k = entered c own exact d (code_found own x d g) in
          let q = is_proxied c k.entry k.among k.class_is k.name_is in
          g ∙ ap Some (k.code_is ∙ handed_code k.entry t k.name_is (ap (λ (m : Member). m.method) q.member_is ∙ one q.method q.is_entry) (without_result w facts p h.reflective))
