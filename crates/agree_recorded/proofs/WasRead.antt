-- Classes as they were recorded have what the theorem on judged classes asks: one with a call, one with a loop, one with parameters and a label.
use Rattle.std.proofs.Common.{◌≡◌, ℕ, List, [], ◌∷◌, codes, None, Ok, refl}
use Rattle.std.specs.List.{All}
use Rattle.std.proofs.lemmas.List.Elements.{All-nil, All-cons}
use Rattle.outcomes.specs.Agreement.{Agree}
use Rattle.ir_mean.specs.Rows.{once}
use Rattle.sj_read_spec.specs.Files.{file_of}
use Rattle.sj_read_spec.proofs.ExactFiles.{file_found}
use Rattle.sj_local.specs.Broken.{FirstBroken}
use Rattle.sj_names.specs.declared.method_names.Namespace.{Namespace}
use Rattle.sj_names.specs.declared.method_names.Namespace.TheVariants.{PublicStatic}
use Rattle.sj_trees.specs.declared.classes.ClassDef.{ClassDef}
use Rattle.sj_typing_spec.specs.Nodes.{Node, nodes}
use Rattle.sj_typing_spec.specs.Rules.{nothing_wanted, fitting}
use Rattle.sj_typing_spec.specs.Typed.{MeetsThere, IsTyped}
use Rattle.sj_world.specs.Known.{Classes}
use Rattle.sj_world.specs.Subtypes.{equal}
use Rattle.agree_classes.specs.Judged.{IsJudgedClass, IsJudgedMethod}
use Rattle.agree_classes.proofs.Judged.{judged_agree}
use Rattle.agree_recorded.specs.Bounds.{all_emitted, class_within, file_within}
use Rattle.agree_recorded.specs.Files as files
use Rattle.agree_recorded.specs.Judged.{IsJudged}
use Rattle.agree_recorded.specs.Whole as whole
use Rattle.agree_recorded.proofs.Classes as classes
use Rattle.agree_recorded.proofs.Computing.{reading}
use Rattle.agree_recorded.proofs.Premises.{body_in, each_of, own, recorded_unbroken}

read_class : (bytes : List ℕ) (c : ClassDef) → file_of bytes ≡ Ok c → FirstBroken c None → IsJudgedClass c
read_class bytes c is unbroken = record { bytes = bytes; read = file_found bytes c is; unbroken = unbroken }

-- each tree meets the rule of its form
abbrev AllMet : Classes → Namespace → List Node → Type 0
AllMet w space [] = Unit {0}
AllMet w space (x ∷ xs) = MeetsThere w space x × AllMet w space xs

all_met : (w : Classes) (space : Namespace) (xs : List Node) → AllMet w space xs → All (MeetsThere w space) xs
all_met w space [] h = All-nil (MeetsThere w space)
all_met w space (x ∷ xs) h = All-cons (MeetsThere w space) x xs h.0 (all_met w space xs h.1)

-- `logs_hi`
abbrev hi : Classes
hi = whole.logs_hi_class ∷ []

hi_read : file_of files.logs_hi ≡ Ok whole.logs_hi_class
unfolding reading
hi_read = refl

hi_main : IsTyped hi whole.logs_hi_main
hi_main = record { body = body_in whole.logs_hi_main; has_body = refl; met = all_met hi PublicStatic (nodes [] 0 (body_in whole.logs_hi_main)) (tt, (equal refl, tt)); yields = nothing_wanted refl }

pub logs_hi_judged : IsJudged whole.logs_hi_class
logs_hi_judged = record {
  class = read_class files.logs_hi whole.logs_hi_class hi_read (recorded_unbroken whole.logs_hi_class classes.logs_hi);
  methods = each_of (IsJudgedMethod hi (all_emitted whole.logs_hi_class.methods)) (all_emitted whole.logs_hi_class.methods) (record { found = refl; has_body = refl; typed = hi_main; built = refl }, tt);
  own_members = own (all_emitted whole.logs_hi_class.methods) refl;
  called = refl;
}

-- `calls_itself`
abbrev again : Classes
again = whole.calls_itself_class ∷ []

again_read : file_of files.calls_itself ≡ Ok whole.calls_itself_class
unfolding reading
again_read = refl

again_main : IsTyped again whole.calls_itself_main
again_main = record { body = body_in whole.calls_itself_main; has_body = refl; met = all_met again PublicStatic (nodes [] 0 (body_in whole.calls_itself_main)) ((tt, refl, tt), tt); yields = nothing_wanted refl }

again_again : IsTyped again whole.calls_itself_again
again_again = record { body = body_in whole.calls_itself_again; has_body = refl; met = all_met again PublicStatic (nodes [] 0 (body_in whole.calls_itself_again)) (tt, (equal refl, ((tt, refl, tt), (tt, tt)))); yields = nothing_wanted refl }

pub calls_itself_judged : IsJudged whole.calls_itself_class
calls_itself_judged = record {
  class = read_class files.calls_itself whole.calls_itself_class again_read (recorded_unbroken whole.calls_itself_class classes.calls_itself);
  methods = each_of (IsJudgedMethod again (all_emitted whole.calls_itself_class.methods)) (all_emitted whole.calls_itself_class.methods) (record { found = refl; has_body = refl; typed = again_main; built = refl }, (record { found = refl; has_body = refl; typed = again_again; built = refl }, tt));
  own_members = own (all_emitted whole.calls_itself_class.methods) refl;
  called = refl;
}

-- `one_turn`
abbrev turn : Classes
turn = whole.one_turn_class ∷ []

turn_read : file_of files.one_turn ≡ Ok whole.one_turn_class
unfolding reading
turn_read = refl

turn_main : IsTyped turn whole.one_turn_main
turn_main = record { body = body_in whole.one_turn_main; has_body = refl; met = all_met turn PublicStatic (nodes [] 0 (body_in whole.one_turn_main)) (tt, (equal refl, (tt, (tt, ((equal refl, equal refl), (tt, (tt, (tt, ((equal refl, equal refl), ((tt, equal refl), (equal refl, (tt, (equal refl, (tt, tt)))))))))))))); yields = nothing_wanted refl }

pub one_turn_judged : IsJudged whole.one_turn_class
one_turn_judged = record {
  class = read_class files.one_turn whole.one_turn_class turn_read (recorded_unbroken whole.one_turn_class classes.one_turn);
  methods = each_of (IsJudgedMethod turn (all_emitted whole.one_turn_class.methods)) (all_emitted whole.one_turn_class.methods) (record { found = refl; has_body = refl; typed = turn_main; built = refl }, tt);
  own_members = own (all_emitted whole.one_turn_class.methods) refl;
  called = refl;
}

-- `block_value`
abbrev value : Classes
value = whole.block_value_class ∷ []

value_read : file_of files.block_value ≡ Ok whole.block_value_class
unfolding reading
value_read = refl

value_first : IsTyped value whole.block_value_first
value_first = record { body = body_in whole.block_value_first; has_body = refl; met = all_met value PublicStatic (nodes [] 0 (body_in whole.block_value_first)) (tt, (equal refl, (tt, ((equal refl, equal refl), (fitting (equal refl), tt))))); yields = fitting (equal refl) }

value_main : IsTyped value whole.block_value_main
value_main = record { body = body_in whole.block_value_main; has_body = refl; met = all_met value PublicStatic (nodes [] 0 (body_in whole.block_value_main)) (tt, (equal refl, (tt, (tt, (equal refl, (tt, tt)))))); yields = nothing_wanted refl }

pub block_value_judged : IsJudged whole.block_value_class
block_value_judged = record {
  class = read_class files.block_value whole.block_value_class value_read (recorded_unbroken whole.block_value_class classes.block_value);
  methods = each_of (IsJudgedMethod value (all_emitted whole.block_value_class.methods)) (all_emitted whole.block_value_class.methods) (record { found = refl; has_body = refl; typed = value_first; built = refl }, (record { found = refl; has_body = refl; typed = value_main; built = refl }, tt));
  own_members = own (all_emitted whole.block_value_class.methods) refl;
  called = refl;
}

pub judged_class_agrees : (c : ClassDef) → IsJudged c → Agree (class_within c) (file_within c.methods)
judged_class_agrees c h = judged_agree (c ∷ []) once (codes "main") (all_emitted c.methods) (each_of IsJudgedClass (c ∷ []) (h.class, tt)) h.methods h.own_members h.called
