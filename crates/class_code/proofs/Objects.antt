-- A call on an object runs the emitted function of its target.
use Rattle.std.specs.Prelude.{◌≢◌, is_some}
use Rattle.std.proofs.Common.{◌≡◌, ℕ, suc, false, List, [], ◌∷◌, length, map, Contains, Option, Some, None, refl, sym, ap, ◌∙◌, cond}
use Rattle.js_tree.specs.Names.{is_same_text}
use Rattle.js_tree.specs.Terms.{Name, Member as JsMember}
use Rattle.sj_names.specs.declared.method_names.MethodName.{MethodName}
use Rattle.sj_names.specs.declared.method_names.Member.{Member}
use Rattle.sj_names.specs.MethodNames.{IsMethodName}
use Rattle.entry_search.specs.Fact.{Fact}
use Rattle.entry_search.specs.MethodEntry.{MethodEntry}
use Rattle.entry_search.specs.Known.{Classes}
use Rattle.entry_search.proofs.Searches.{stands_at, contains_at}
use Rattle.entry_search.specs.Rules.{public_member}
use Rattle.entry_search.specs.Entries.{AreEntries}
use Rattle.entry_search.specs.Dispatch.{IsReachedTarget}
use Rattle.entry_search.specs.Search.{or_member, entry_for, found}
use Rattle.entry_search.specs.Laws.{AreSpelled}
use Rattle.entry_search.proofs.Found.{search_finds_target}
use Rattle.js_mean.specs.Classes.{method_among, method_in, method_code}
use Rattle.js_mean.specs.Objects.{stored_callee, value_on, called, Callee, value_called, callee, method_on, or_value}
use Rattle.js_mean.specs.States.{Value, object, method, ClassLink, Stored, Program}
use Rattle.js_mean.specs.Meaning.{Code, below, code_of, code_call, method_call}
use Rattle.class_code.specs.Bridges.{bridge}
use Rattle.entry_search.specs.Words.{class_name, entry_name, public_function, parameter, parameters_of}
use Rattle.class_code.proofs.Bridge.{bridges_hand_on}
use Rattle.entry_search.specs.Pieces.{entry_member}
use Rattle.class_code.proofs.Members.{no_member, some_member, target_of_entry}
use Rattle.class_code.proofs.Parameters.{no_parameter}
use Rattle.class_code.specs.Objects.{call_found, Stands, AllStand, stand_more, FindsBridge, LookupFindsBridge, ObjectsRunTargets}

module _ (w : Classes) (facts : List Fact) (es : List MethodEntry) (are : AreEntries w facts es) (spelled : AreSpelled es) (p : Program) (link_of : Name → ClassLink) (m : MethodName) (m_is : IsMethodName m) (m_direct : m.result ≢ None) (owner : Name) where
  abbrev x : Name
  x = entry_name m

  code_at : (c : Name) (st : Stands p link_of es c) → method_code p (link_of c) x ≡ method_among (map entry_member st.own) x
  code_at c st = ap (λ (o : Option (List JsMember)). method_in o x) st.members_are

  no_code : (c : Name) (st : Stands p link_of es c) → entry_for es c m ≡ None → method_code p (link_of c) x ≡ None
  no_code c st none = code_at c st ∙ no_member w facts es are spelled m m_is m_direct owner c st.own st.exact none

  some_code : (c : Name) (st : Stands p link_of es c) → IsReachedTarget w facts c m owner → (k : Member) → entry_for es c m ≡ Some k → method_code p (link_of c) x ≡ Some (bridge (public_function owner m) (parameters_of m))
  some_code c st t k there = code_at c st ∙ some_member w facts es are spelled m m_is m_direct owner c st.own st.exact t k there

  -- the class that a search finds has the target too
  runs : (chain : List Name) → AllStand p link_of es chain → ((c : Name) → Contains chain c → (k : Member) → entry_for es c m ≡ Some k → k ≡ public_member owner m → IsReachedTarget w facts c m owner) → found es chain m ≡ Some (public_member owner m) → FindsBridge p link_of chain m owner
  runs [] all targets h = cc
  runs (c ∷ cs) (stand_more _ _ st rest) targets h = go (runs cs rest (λ d a. targets d (contains_at (c ∷ cs) (suc a.0) d (stands_at cs d a)))) (entry_for es c m) refl
    where
      go : (found es cs m ≡ Some (public_member owner m) → FindsBridge p link_of cs m owner) → (o : Option Member) → entry_for es c m ≡ o → FindsBridge p link_of (c ∷ cs) m owner
      go next None e =
          let k = next (sym (ap (λ (o : Option Member). or_member o (found es cs m)) e) ∙ h) in
          record { at = k.at; above = k.above; lookup = ap (λ (o : Option Code). cond (is_some o) (Some (method (link_of c ∷ map link_of cs) x)) (method_on p (map link_of cs) x)) (no_code c st e) ∙ k.lookup; code = k.code; named = k.named }
      go next (Some k) e =
          let s : Some k ≡ Some (public_member owner m) = sym (ap (λ (o : Option Member). or_member o (found es cs m)) e) ∙ h in
          let i : k ≡ public_member owner m = cc in
          let code = some_code c st (targets c (contains_at (c ∷ cs) 0 c refl) k e i) k e in
          record { at = c; above = map link_of cs; lookup = ap (λ (o : Option Code). cond (is_some o) (Some (method (link_of c ∷ map link_of cs) x)) (method_on p (map link_of cs) x)) code; code = code; named = st.named }

pub lookup_finds_bridge : LookupFindsBridge
lookup_finds_bridge w facts es p link_of c chain m owner placed call =
    runs w facts es placed.are placed.spelled p link_of m call.spelled call.direct owner chain placed.stand
    (λ d a. target_of_entry w facts es placed.are placed.spelled m call.spelled call.direct owner d)
    (search_finds_target w facts es placed.are placed.spelled c chain placed.is_chain m owner call.spelled call.direct call.live call.wanted call.target)

function_is_no_parameter : (owner : Name) (m : MethodName) (k : ℕ) → is_same_text (public_function owner m) (parameter k) ≡ false
function_is_no_parameter owner m k = refl

function_is_no_class : (owner c : Name) (m : MethodName) → is_same_text (public_function owner m) (class_name c) ≡ false
function_is_no_class owner c m = refl

pub objects_run_targets : ObjectsRunTargets
objects_run_targets w facts es p link_of c chain m owner g n a vs sc s placed call is_object distinct same_length top = go (lookup_finds_bridge w facts es p link_of c chain m owner placed call)
  where
    found_property : (b : FindsBridge p link_of chain m owner) → callee p s (object a) (entry_name m) ≡ Some (value_called (method (link_of b.at ∷ b.above) (entry_name m)))
    found_property b = ap (λ (o : Option Stored). stored_callee p a o (entry_name m)) is_object.stored ∙ ap (λ (o : Option Value). called (value_on (or_value o (method_on p (map link_of chain) (entry_name m))) (entry_name m))) is_object.free ∙ ap (λ (o : Option Value). called (value_on o (entry_name m))) b.lookup

    go : FindsBridge p link_of chain m owner → call_found p (below p (suc n)) (object a) (callee p s (object a) (entry_name m)) vs sc s ≡ code_call (below p n) g (code_of p g (public_function owner m)) (object a ∷ vs) s
    go b =
        ap (λ (o : Option Callee). call_found p (below p (suc n)) (object a) o vs sc s) (found_property b)
        ∙ ap (λ (o : Option Code). method_call (below p (suc n)) (link_of b.at) b.above o (object a) vs s) b.code
        ∙ bridges_hand_on p n (link_of b.at) b.above (parameters_of m) (public_function owner m) g (object a) vs s distinct same_length (no_parameter (public_function owner m) (length m.params) (function_is_no_parameter owner m)) (ap (is_same_text (public_function owner m)) b.named ∙ function_is_no_class owner b.at m) (top b.at)
