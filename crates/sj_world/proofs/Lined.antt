-- Lines that are added one after the other.
use Rattle.std.proofs.Common.{◌≡◌, ℕ, Bool, true, false, [], ◌∷◌, ◌++◌, Contains, slice_get, Option, Some, None, MatchOption, refl, sym, ap, ◌∙◌, subst, inl, inr, cond, ◌||◌}
use Rattle.std.specs.Prelude.{◌⊎◌, is_some}
use Rattle.std.specs.List.{list_any}
use Rattle.std.specs.Ordering.{is_eq}
use Rattle.std.specs.BTreeMap.{BTreeMap}
use Rattle.std.specs.Cmp.Lexicographic.{texts_ties}
use Rattle.std.proofs.lemmas.Option.{slice_get_within, get_or_from_slice_get}
use Rattle.std.proofs.lemmas.List.Elements.{Contains-append_left, Contains-append_right, Contains-append_cases, Contains-push, Contains-push_cases}
use Rattle.sj_trees.specs.declared.classes.ClassDef.{ClassDef}
use Rattle.sj_world.specs.declared.lines.Line.{Line}
use Rattle.sj_world.specs.Known.{Name, Classes, is_same, class_of, is_known, is_hijacked, hijacked, names_of}
use Rattle.sj_world.specs.Tables.{IsLine, IsAdded, AreLines, line_at}
use Rattle.sj_world.proofs.Orders.{compared, same_name, is_same_itself}
use Rattle.sj_world.proofs.Names.{Names}
use Rattle.worklist.proofs.Inserted.{nothing_in}
use Rattle.sj_world.proofs.OnCycles.{among}

-- each of the names has its line, and nothing but known classes has one
pub record Lined (w : Classes) (names : Names) (lines : BTreeMap Name Line) : Type 0 where
  pub sound : (name : Name) (line : Line) → line_at lines name ≡ Some line → IsLine w name line
  pub known : (name : Name) (line : Line) → line_at lines name ≡ Some line → is_known w name ≡ true
  pub present : (name : Name) → Contains names name → (line : Line) × (line_at lines name ≡ Some line)

pub lined_begins : (w : Classes) (lines : BTreeMap Name Line) → lines.entries ≡ [] → Lined w [] lines
lined_begins w lines empty = record { sound = λ name line h. absurd (nothing name line h); known = λ name line h. absurd (nothing name line h); present = λ name h. nothing_in name h }
  where
    nothing : (name : Name) (line : Line) → line_at lines name ≡ Some line → ⊥
    nothing name line h = let e : line_at lines name ≡ None = rw empty refl in cc

tied : (a b : Name) → is_same a b ≡ is_eq (compared a b)
tied a b = texts_ties a b

pub lined_more : (w : Classes) (names : Names) (name : Name) (before after : BTreeMap Name Line) → Lined w names before → is_known w name ≡ true → IsAdded w name before after → Lined w (names ++ name ∷ []) after
lined_more w names name before after l known added = record {
  sound = λ other line h. sound other line h (is_eq (compared name other)) refl;
  known = λ other line h. knows other line h (is_eq (compared name other)) refl;
  present = λ other h. there other (Contains-push_cases names name other h) (is_eq (compared name other)) refl;
}
  where
    new_at : (other : Name) (b : Bool) → is_eq (compared name other) ≡ b → line_at after other ≡ cond b (Some added.line) (line_at before other)
    new_at other b e = added.gets other ∙ ap (λ (k : Bool). cond k (Some added.line) (line_at before other)) e

    same_at : (other : Name) → is_eq (compared name other) ≡ true → name ≡ other
    same_at other e = same_name name other (tied name other ∙ e)

    sound : (other : Name) (line : Line) → line_at after other ≡ Some line → (b : Bool) → is_eq (compared name other) ≡ b → IsLine w other line
    sound other line h true e = let s : Some added.line ≡ Some line = sym (new_at other true e) ∙ h in let k : added.line ≡ line = cc in subst (λ (x : Line). IsLine w other x) k (subst (λ (n : Name). IsLine w n added.line) (same_at other e) added.is_line)
    sound other line h false e = l.sound other line (sym (new_at other false e) ∙ h)

    knows : (other : Name) (line : Line) → line_at after other ≡ Some line → (b : Bool) → is_eq (compared name other) ≡ b → is_known w other ≡ true
    knows other line h true e = subst (λ (n : Name). is_known w n ≡ true) (same_at other e) known
    knows other line h false e = l.known other line (sym (new_at other false e) ∙ h)

    there : (other : Name) → Contains names other ⊎ (name ≡ other) → (b : Bool) → is_eq (compared name other) ≡ b → (line : Line) × (line_at after other ≡ Some line)
    there other h true e = (added.line, new_at other true e)
    there other (inl old) false e = let p = l.present other old in (p.0, new_at other false e ∙ p.1)
    there other (inr same) false e = let t : is_same name other ≡ true = subst (λ (n : Name). is_same name n ≡ true) same (is_same_itself name) in let f : is_same name other ≡ false = tied name other ∙ e in cc

-- the names of the classes and of the eight are those that are known
named : (w : Classes) (name : Name) (c : ClassDef) → class_of w name ≡ Some c → Contains (names_of w) name
named [] name c e = cc
named (x ∷ w) name c e = go (named w name c) (is_same x.name name) refl
  where
    go : (class_of w name ≡ Some c → Contains (names_of w) name) → (b : Bool) → is_same x.name name ≡ b → Contains (names_of (x ∷ w)) name
    go below true h = subst (λ (n : Name). Contains (n ∷ names_of w) name) (sym (same_name x.name name h)) (Contains-append_left (name ∷ []) (names_of w) name (Contains-push [] name))
    go below false h = Contains-append_right (x.name ∷ []) (names_of w) name (below (sym (ap (λ (b : Bool). cond b (Some x) (class_of w name)) h) ∙ e))

pub known_named : (w : Classes) (name : Name) → is_known w name ≡ true → Contains (names_of w ++ hijacked) name
known_named w name k = go (class_of w name) refl
  where
    go : (o : Option ClassDef) → class_of w name ≡ o → Contains (names_of w ++ hijacked) name
    go (Some c) e = Contains-append_left (names_of w) hijacked name (named w name c e)
    go None e = Contains-append_right (names_of w) hijacked name ((among hijacked name).0 (subst (λ (o : Option ClassDef). (is_some o || is_hijacked name) ≡ true) e k))

named_known : (w : Classes) (name : Name) → Contains (names_of w) name → is_some (class_of w name) ≡ true
named_known [] name h = nothing_in name h
named_known (x ∷ w) name h = go (named_known w name) (is_same x.name name) refl (Contains-append_cases (x.name ∷ []) (names_of w) name h)
  where
    go : (Contains (names_of w) name → is_some (class_of w name) ≡ true) → (b : Bool) → is_same x.name name ≡ b → Contains (x.name ∷ []) name ⊎ Contains (names_of w) name → is_some (class_of (x ∷ w) name) ≡ true
    go below true e c = ap (λ (b : Bool). is_some (cond b (Some x) (class_of w name))) e
    go below false e (inr later) = ap (λ (b : Bool). is_some (cond b (Some x) (class_of w name))) e ∙ below later
    go below false e (inl first) = only (Contains-push_cases [] x.name name first)
      where
        only : Contains [] name ⊎ (x.name ≡ name) → is_some (class_of (x ∷ w) name) ≡ true
        only (inl none) = nothing_in name none
        only (inr same) = let t : is_same x.name name ≡ true = subst (λ (n : Name). is_same x.name n ≡ true) same (is_same_itself x.name) in cc

pub named_is_known : (w : Classes) (name : Name) → Contains (names_of w ++ hijacked) name → is_known w name ≡ true
named_is_known w name h = go (is_some (class_of w name)) refl (Contains-append_cases (names_of w) hijacked name h)
  where
    go : (b : Bool) → is_some (class_of w name) ≡ b → Contains (names_of w) name ⊎ Contains hijacked name → is_known w name ≡ true
    go true e c = ap (λ (b : Bool). b || is_hijacked name) e
    go false e (inl of_class) = let t : is_some (class_of w name) ≡ true = named_known w name of_class in cc
    go false e (inr of_eight) = ap (λ (b : Bool). b || is_hijacked name) e ∙ (among hijacked name).1 of_eight

-- the line of a known class
abbrev IsKnownLine : Classes → Name → Line → Type 0
IsKnownLine w name line = (is_known w name ≡ true) × IsLine w name line

pub lined_whole : (w : Classes) (lines : BTreeMap Name Line) → Lined w (names_of w ++ hijacked) lines → AreLines w lines
lined_whole w lines l = record { right = λ name. right name (line_at lines name) refl }
  where
    unknown : (name : Name) → line_at lines name ≡ None → (b : Bool) → is_known w name ≡ b → is_known w name ≡ false
    unknown name e true k = let p = l.present name (known_named w name k) in let s : Some p.0 ≡ None = sym p.1 ∙ e in cc
    unknown name e false k = k

    right : (name : Name) → (o : Option Line) → line_at lines name ≡ o → MatchOption (line_at lines name) (is_known w name ≡ false) (IsKnownLine w name)
    right name None e = subst (λ (o : Option Line). MatchOption o (is_known w name ≡ false) (IsKnownLine w name)) (sym e) (unknown name e (is_known w name) refl)
    right name (Some line) e = subst (λ (o : Option Line). MatchOption o (is_known w name ≡ false) (IsKnownLine w name)) (sym e) (l.known name line e, l.sound name line e)

pub found_name : (names : Names) (i : ℕ) (x text : Name) → slice_get names i ≡ Some x → is_same text x ≡ true → Some x ≡ cond (list_any (is_same text) names) (Some text) None
found_name names i x text at e = ap Some (sym (same_name text x e)) ∙ sym (ap (λ (b : Bool). cond b (Some text) None) ((among names text).1 (i, slice_get_within names i x at, get_or_from_slice_get names i x text at ∙ sym (same_name text x e))))
