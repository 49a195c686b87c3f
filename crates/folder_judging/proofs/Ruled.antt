-- The least class that breaks a local rule, as classes are added.
use Rattle.std.proofs.Common.{◌≡◌, ℕ, ◌+◌, ◌≤◌, List, [], ◌∷◌, ◌++◌, length, take, slice_get, Option, Some, None, Err, Contains, refl, sym, ap, ◌∙◌, subst, inl, inr}
use Rattle.std.specs.Prelude.{◌⊎◌}
use Rattle.std.proofs.lemmas.List.Elements.{Contains-append_left, Contains-push, Contains-push_cases}
use Rattle.std.proofs.lemmas.List.{take_more, take_all}
use Rattle.std.proofs.lemmas.Option.{slice_get_within, get_or_from_slice_get}
use Rattle.worklist.proofs.Inserted.{nothing_in}
use Rattle.sj_trees.specs.declared.classes.ClassDef.{ClassDef}
use Rattle.sj_local.specs.declared.rules.Where.{Where}
use Rattle.sj_local.specs.declared.rules.Rule.{Rule}
use Rattle.sj_local.specs.declared.rules.LocalError.{LocalError}
use Rattle.sj_local.specs.declared.rules.LocalError.TheVariants.{Broken}
use Rattle.sj_local.specs.Broken.{FirstBroken, IsCheck, number}
use Rattle.sj_local.proofs.Once.{checks_once}
use Rattle.sj_world.specs.Known.{Name, Classes}
use Rattle.sj_reach.specs.Answers.{first_told}
use Rattle.sj_reach.specs.declared.findings.Report.{Report}
use Rattle.folder_judging_spec.specs.Stages.{rule_at, IsBroken, IsLeastBroken, KeepRules}
use Rattle.folder_judging.specs.Rules.{BreaksFirst, IsLeastIn, IsWithClass, kept, broken}
use Rattle.folder_judging.proofs.Least.{IsLeast, with_first, with_more}

-- a class among these is told so
abbrev Is : Classes → Report → Type 0
Is classes r = IsBroken classes r.place r.code

no_rule : (o : ℕ × Where) → None ≡ Some o → ⊥
no_rule o e = cc

same_rule : (a b : ℕ × Where) → Some a ≡ Some b → a.0 ≡ b.0
same_rule a b e = let s : a ≡ b = cc in ap (λ (p : ℕ × Where). p.0) s

none_broken : (classes : Classes) → KeepRules classes → (r : Report) → Is classes r → ⊥
none_broken classes all r h = no_rule (r.code, h.place) (checks_once h.class None (Some (r.code, h.place)) (all h.class h.among) h.first)

-- what breaks a rule among more
more : (classes : Classes) (c : ClassDef) (r : Report) → Is classes r → Is (classes ++ c ∷ []) r
more classes c r h = record { class = h.class; among = Contains-append_left classes (c ∷ []) h.class h.among; name_is = h.name_is; place = h.place; first = h.first }

abbrev of_parts : ℕ → Name → Report
of_parts code place = record { code = code; place = place }

module _ (classes : Classes) (c : ClassDef) where
  abbrev All : Classes
  All = classes ++ c ∷ []

  kept_more : FirstBroken c None → KeepRules classes → KeepRules All
  kept_more keeps all k among = go (Contains-push_cases classes c k among)
    where
      go : Contains classes k ⊎ (c ≡ k) → FirstBroken k None
      go (inl there) = all k there
      go (inr e) = subst (λ (d : ClassDef). FirstBroken d None) e keeps

  -- a class that keeps them adds nothing
  kept_back : FirstBroken c None → (r : Report) → Is All r → Is classes r
  kept_back keeps r h = go (Contains-push_cases classes c h.class h.among)
    where
      go : Contains classes h.class ⊎ (c ≡ h.class) → Is classes r
      go (inl there) = record { class = h.class; among = there; name_is = h.name_is; place = h.place; first = h.first }
      go (inr e) = absurd (no_rule (r.code, h.place) (checks_once c None (Some (r.code, h.place)) keeps (subst (λ (d : ClassDef). FirstBroken d (Some (r.code, h.place))) (sym e) h.first)))

  module _ (rule : ℕ) (b : BreaksFirst c rule) where
    here : Is All (rule_at rule c.name)
    here = record { class = c; among = Contains-push classes c; name_is = refl; place = b.place; first = b.first }

    here_or_there : (r : Report) → Is All r → Is classes r ⊎ (r ≡ rule_at rule c.name)
    here_or_there r h = go (Contains-push_cases classes c h.class h.among)
      where
        go : Contains classes h.class ⊎ (c ≡ h.class) → Is classes r ⊎ (r ≡ rule_at rule c.name)
        go (inl there) = inl (record { class = h.class; among = there; name_is = h.name_is; place = h.place; first = h.first })
        go (inr e) =
            let one : r.code ≡ rule = same_rule (r.code, h.place) (rule, b.place) (checks_once c (Some (r.code, h.place)) (Some (rule, b.place)) (subst (λ (d : ClassDef). FirstBroken d (Some (r.code, h.place))) (sym e) h.first) b.first) in
            let name : r.place ≡ c.name = sym h.name_is ∙ sym (ap (λ (d : ClassDef). d.name) e) in
            inr (ap (λ n. of_parts r.code n) name ∙ ap (λ n. of_parts n c.name) one)

  least_of : (r : Report) → IsLeast (Is All) r → IsLeastBroken All r.place r.code
  least_of r h = record { broken = h.is; least = λ other another k. h.least (rule_at another other) k }

pub with_class_goes_on : (classes : Classes) (c : ClassDef) (least found : Option Report) → IsLeastIn classes least → IsWithClass least c found → IsLeastIn (classes ++ c ∷ []) found
with_class_goes_on classes c None _ all (kept keeps) = kept_more classes c keeps all
with_class_goes_on classes c (Some old) _ h (kept keeps) = record { broken = more classes c old h.broken; least = λ other another k. h.least other another (kept_back classes c keeps (rule_at another other) k) }
with_class_goes_on classes c None _ all (broken rule b) = least_of classes c (rule_at rule c.name) (with_first (Is classes) (Is (classes ++ c ∷ [])) (rule_at rule c.name) (more classes c) (here classes c rule b) (here_or_there classes c rule b) (none_broken classes all))
with_class_goes_on classes c (Some old) _ h (broken rule b) = least_of classes c (first_told (Some old) (rule_at rule c.name)) (with_more (Is classes) (Is (classes ++ c ∷ [])) (rule_at rule c.name) (more classes c) (here classes c rule b) (here_or_there classes c rule b) old (record { is = h.broken; least = λ o k. h.least o.place o.code k }))

pub with_broken : (least : Option Report) (class : ClassDef) (rule : ℕ) (place : List ℕ) (found : Report) → BreaksFirst class rule → place ≡ class.name → found ≡ first_told least (rule_at rule place) → IsWithClass least class (Some found)
with_broken least class rule place found b e is = subst (λ (r : Report). IsWithClass least class (Some r)) (sym (is ∙ ap (λ (p : List ℕ). first_told least (rule_at rule p)) e)) (broken rule b)

-- the first classes
abbrev pub IsLeastInFirst : Classes → ℕ → Option Report → Type 0
IsLeastInFirst classes n = IsLeastIn (take n classes)

pub none_yet : (classes : Classes) → IsLeastInFirst classes 0 None
none_yet classes c h = absurd (nothing_in _ h)

pub one_more : (classes : Classes) (n : ℕ) (c : ClassDef) (least found : Option Report) → slice_get classes n ≡ Some c → IsLeastInFirst classes n least → IsWithClass least c found → IsLeastInFirst classes (n + 1) found
one_more classes n c least found at h k = subst (λ (l : Classes). IsLeastIn l found) (sym (take_more classes n c (slice_get_within classes n c at) ∙ ap (λ (x : ClassDef). take n classes ++ x ∷ []) (get_or_from_slice_get classes n c c at))) (with_class_goes_on (take n classes) c least found h k)

pub all_of_them : (classes : Classes) (n : ℕ) (least : Option Report) → length classes ≤ n → IsLeastInFirst classes n least → IsLeastIn classes least
all_of_them classes n least over h = subst (λ (l : Classes). IsLeastIn l least) (take_all n classes over) h

pub broken_at : (class : ClassDef) (e : LocalError) (rule : Rule) (place : Where) (n : ℕ) → e ≡ Broken rule place → IsCheck class (Err e) → n ≡ number rule → BreaksFirst class n
broken_at class e rule place n is h same = record { place = place; first = subst (λ m. FirstBroken class (Some (m, place))) (sym same) (subst (λ (x : LocalError). IsCheck class (Err x)) is h) }
