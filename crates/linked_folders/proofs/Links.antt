-- What is written of the pieces of an accepted folder can run.
use Rattle.std.proofs.Common.{◌≡◌, ◌↔◌, ◌⊎◌, ◌∙◌, Bool, true, false, List, [], ◌∷◌, Option, Some, None, inl, inr, refl, sym, subst, map, Contains, codes}
use Rattle.std.specs.List.{flat_map, list_any}
use Rattle.std.specs.Prelude.{not, ◌||◌}
use Rattle.std.proofs.lemmas.Bool.{and_parts, and_from}
use Rattle.std.proofs.lemmas.List.Elements.{Contains-append_left}
use Rattle.declared_pieces.proofs.Calls.{needed, entry}
use Rattle.declared_pieces.proofs.Members.{defined}
use Rattle.declared_pieces.proofs.Below.{stands_above, known_class, kind_hijacked, some_below, class_below, told_kind}
use Rattle.declared_pieces.proofs.Facts.{made_known, called_known}
use Rattle.declared_pieces.proofs.Looked.{none_is_some, finds, dispatch_there, told_case, has_case, reflection_there, answer_there}
pub use Rattle.declared_pieces.proofs.Entered.{initializers_among}
use Rattle.declared_pieces.proofs.Reached.{HasTarget, target_of, made_lives, called_free, kind_target, listed, loaded, answered as target_answers, named as name_answers, unnamed}
use Rattle.declared_pieces.proofs.LinkedEntriesOne.{one_method}
use Rattle.declared_pieces.proofs.Proxies.{proxy_right}
use Rattle.declared_pieces.proofs.ReflectedCases.{kind_reflected, reflected_case}
use Rattle.declared_pieces.specs.Reflected.{HasReflected}
use Rattle.declared_pieces.specs.Laws.{ReflectionThere, NamedThere, not_named, is_named}
use Rattle.sj_emit_help_spec.specs.declared.kinds.Failure.TheVariants.{Method}
use Rattle.declared_pieces.proofs.Worlds.{judged}
use Rattle.declared_pieces.specs.Accepted.{IsAccepted}
use Rattle.declared_pieces.specs.Bodies.{AreBodies}
use Rattle.declared_pieces.specs.Written.{AreWrittenWith}
use Rattle.declared_pieces.specs.Built.{Usable}
use Rattle.declared_pieces.proofs.Blocks.{method_there, method_in_blocks, helper_there, own_pieces}
use Rattle.declared_pieces.specs.AgreeSoundnessLaws.{IsClassBelow, made_below, kind_below, Answers, AnswersByName}
use Rattle.declared_pieces.specs.ClassTestsKinds.{is_told}
use Rattle.declared_pieces.specs.Dispatch.{IsReachedTarget, IsReflectedTarget}
use Rattle.declared_pieces.specs.Targets.{has_hijacked_in}
use Rattle.declared_pieces.proofs.Forms.{body_tells, cast_form}
use Rattle.declared_pieces.proofs.Parts.{cast_among}
use Rattle.declared_pieces.proofs.Plain.{class_found}
use Rattle.declared_pieces.specs.Closed.{IsClosed}
use Rattle.declared_pieces.specs.Entries.{AreEntries, IsLive}
use Rattle.declared_pieces.specs.EmittedMethods.{EmittedMethod}
use Rattle.sj_emit_help_spec.specs.Helpers.{failure_class, helper_name, helper_piece, init_name, of, used_helpers}
use Rattle.sj_emit_help_spec.specs.Words.{bound, class_name, helper, kind_class}
use Rattle.sj_emit_help_spec.specs.declared.kinds.Failure.{Failure}
use Rattle.sj_emit_help_spec.specs.declared.kinds.Failure.TheVariants.{Cast as CastFails}
use Rattle.sj_emit_help_spec.specs.declared.kinds.Helper.TheVariants as helpers
use Rattle.sj_emit_help_spec.specs.declared.kinds.Helper.TheVariants.{ArrayClass}
use Rattle.linked_folders.proofs.AboveMade.{arrays_extend}
use Rattle.sj_emit_help_spec.specs.declared.kinds.Kind.{Kind}
use Rattle.ir_mean.specs.Dispatch.{is_ancestor, proxy_target}
use Rattle.js_tree.specs.Terms.{Piece}
use Rattle.declared_pieces.specs.Pieces.{piece_of_member, pieces_of_block, by_piece, by_helper, AreLinkedPieces}
use Rattle.declared_pieces.specs.Used.{used_of, makes, calls_on, tells_apart, is_among, is_cast}
use Rattle.declared_pieces.proofs.Made as made
use Rattle.declared_pieces.specs.Running.{CanBeThrown, CanRun}
use Rattle.declared_pieces.proofs.Pieces.{reached}
use Rattle.declared_pieces.specs.ProperPiecesLaws.{AreNamed}
use Rattle.declared_pieces.proofs.Derivations.{closed}
use Rattle.declared_pieces.specs.Reachable.{Reachable}
use Rattle.declared_pieces.specs.Rules.{on_hijacked, message_constructor, the_object, class_named as class_named_by}
use Rattle.declared_pieces.specs.SjEmitClassSpecPieces.{cast_piece}
use Rattle.declared_pieces.proofs.Found.{OwnerOf, owner_of}
use Rattle.declared_pieces.proofs.Classes.{class-keeps}
use Rattle.declared_pieces.proofs.Methods.{body_keeps}
use Rattle.sj_infos.specs.declared.forms.BodyForm.TheVariants as forms
use Rattle.sj_mangling.specs.Bindings.{class_binding}
use Rattle.sj_mangling.specs.declared.bindings.ClassBinding.TheVariants.{IsInstance}
use Rattle.sj_names.specs.WellKnown.{object}
use Rattle.sj_names.specs.declared.entry_points.EntryPoint.{EntryPoint}
use Rattle.sj_names.specs.declared.folders.SourceFile.{SourceFile}
use Rattle.sj_names.specs.declared.method_names.MethodName.{MethodName}
use Rattle.declared_pieces.specs.Emitted.{initializer_member}
use Rattle.declared_pieces.specs.Once.{DefinesOnce}
use Rattle.declared_pieces.specs.Linked.{has_function}
use Rattle.sj_split.proofs.Members.{at_first, further}
use Rattle.sj_trees.specs.declared.classes.ClassDef.{ClassDef}
use Rattle.sj_trees.specs.declared.classes.MethodDef.{MethodDef}
use Rattle.sj_world.proofs.OnCycles.{among}
use Rattle.sj_world.specs.Known.{Name, Classes, class_of, is_hijacked}
use Rattle.sj_world.specs.Linked.{Linked}
use Rattle.sj_world.specs.Subtypes.{to_any}
use Rattle.sj_world.specs.declared.facts.Fact.{Fact}
use Rattle.sj_world.specs.declared.facts.Fact.TheVariants.{Needed, Made, Body, Called}
use Rattle.declared_pieces.proofs.Fields.{class_named}
use Rattle.declared_pieces.proofs.Live.{classes_kept}
use Rattle.linked_folders.proofs.Live.{live, are_live}
use Rattle.linked_folders.specs.Laws.{WrittenPiecesRun}
use Rattle.declared_pieces.proofs.BodyForms.{accepted_bodies}

module _ (entries : List EntryPoint) (files : List SourceFile) (l : Linked) (all : List EmittedMethod) (ps : List Piece) (a : IsAccepted entries files l.world) (bodies : AreBodies l.world entries all) (exact : (f : Fact) → Contains l.facts f ↔ Reachable l.world entries f) (p : AreLinkedPieces l all ps) (methods : AreEntries l.world l.facts l.entries) (written : List Name) (owned : IsClosed ps written) where
  abbrev w : Classes
  w = l.world

  holds : (f : Fact) → Contains l.facts f → Reachable w entries f
  holds f = (exact f).0

  pub live_there : (c : Name) → IsLive w l.facts c → (k : ClassDef) × (class_of w c ≡ Some k)
  live_there = made.live_there w entries a.resolved (classes_kept entries files w a) l.facts holds

  abbrev pub its_live : List Name
  its_live = live l all live_there ps p

  pub lives : (c : Name) → Contains its_live c ↔ IsLive w l.facts c
  lives = are_live l all live_there ps p

  abbrev pub has : Usable
  has = used_of w l.facts all its_live p.helpers written

  abbrev own_pieces_there : List Piece
  own_pieces_there = flat_map (pieces_of_block l.world) p.blocks

  -- the function of a method stands among the pieces of its class
  module _ (e : EmittedMethod) (i : Contains all e) where
    owner : (k : ClassDef) × (class_of w e.member.class ≡ Some k)
    owner = let d = defined w e.member e.definition (bodies.found e i).found in (d.class, d.is_class)

    there : Contains ps (piece_of_member l.world e)
    there = method_there l all ps p e i owner.0 owner.1

    in_blocks : Contains (flat_map (pieces_of_block l.world) p.blocks) (piece_of_member l.world e)
    in_blocks = method_in_blocks l all ps p e i owner.0 owner.1

    its_owner : OwnerOf w e.member e.definition
    its_owner = owner_of w e.member e.definition (bodies.found e i).found

    pub once : DefinesOnce e.definition e.its_body
    once = body_keeps its_owner.owner e.definition e.its_body (bodies.found e i).has_body (class-keeps its_owner.owner (judged entries files w a its_owner.owner its_owner.in_world).unbroken e.definition its_owner.listed)

  uses : AreWrittenWith w entries l.facts all its_live p.helpers written
  uses = record {
    are_facts = exact;
    are_live = lives;
    owned = λ e i here b u. owned (piece_of_member l.world e) (there e i) here b u;
    helped = λ e i here h u. (p.are_helpers.exact h).1 (by_piece (piece_of_member l.world e) h (Contains-append_left own_pieces_there p.told (piece_of_member l.world e) (in_blocks e i)) u);
  }

  thrown : (f : Failure) → Contains p.helpers (helpers.Throws f) → Contains written object → CanBeThrown l.facts all written (failure_class f)
  thrown f i here =
      let c = failure_class f in
      let r = reached entries files l all ps a bodies holds p f i in
      let k = made.present w entries a.resolved (classes_kept entries files w a) object (closed w entries (Needed object) the_object) in
      record {
        is_made = (exact (Made c)).1 r.0;
        is_written = owned (helper_piece p.above (helpers.Throws f)) (helper_there l all ps p k.0 k.1 (helpers.Throws f) i) here (bound c (init_name c)) (at_first (bound c (init_name c)) (bound c (class_name c) ∷ map of (used_helpers (helpers.Throws f))));
        constructor = (bodies.exact (message_constructor c)).1 r.1;
      }

  -- the cast of a written class uses what throws, which is a helper with `java.lang.Object` behind it
  cast_throws : (c : Name) → Contains written c → is_cast all c ≡ true → Contains written object × Contains p.helpers (helpers.Throws CastFails)
  cast_throws c here h =
      let form = cast_form w entries l.facts all bodies (listed entries files w l.facts a exact all bodies) c h in
      let k = made.present w entries a.resolved (classes_kept entries files w a) c (closed w entries (Needed c) (class_named_by c (record { member = form.member; needed = (exact (Body form.member)).0 form.needed; definition = form.definition; defined = form.defined; asked = body_tells form.definition.body (forms.Cast c) form.has }))) in
      let its = own_pieces l all ps p c k.0 k.1 in
      let named : its.parts.class.name ≡ c = (class_found w c its.parts.class its.are.class_is).1 in
      let q : Piece = cast_piece its.parts.class.name in
      let among_its = cast_among its.parts (its.are.cast.1 form) in
      let used : Contains q.uses (helper (helper_name (helpers.Throws CastFails))) = further (bound its.parts.class.name (class_binding IsInstance its.parts.class.name)) (helper (codes "$cce")) (helper (codes "$cce") ∷ []) (at_first (helper (codes "$cce")) []) in
      (owned q (its.there q among_its) (subst (Contains written) (sym named) here) (helper (codes "$cce")) used, (p.are_helpers.exact (helpers.Throws CastFails)).1 (by_piece q (helpers.Throws CastFails) (Contains-append_left own_pieces_there p.told q (its.in_blocks q among_its)) used))

  abbrev Target : Name → MethodName → Type 0
  Target = HasTarget entries files w l.facts a exact

  answered : (c : Name) (m : MethodName) (d : Name) → is_ancestor w d c ≡ true → (owner : Name) → IsReachedTarget w l.facts d m owner → Contains written owner → Answers w has c d m
  answered = target_answers entries files w l.facts a exact all bodies its_live p.helpers written

  -- objects find it by the entries of their classes, and a primitive value has a case in the function that tells it apart
  answers : (c : Name) (m : MethodName) → has.looked_up c m ≡ true → (d : Name) → IsClassBelow w has c d → Answers w has c d m
  answers c m h d below = by d below
    where
      q : (list_any (calls_on c m) l.facts ≡ true) × ((not (has_hijacked_in w c) || tells_apart w l.facts all written m) ≡ true)
      q = and_parts (list_any (calls_on c m) l.facts) (not (has_hijacked_in w c) || tells_apart w l.facts all written m) h

      called : Contains l.facts (Called c m)
      called = called_known l.facts c m q.0

      free : is_hijacked c ≡ false
      free = called_free entries files w l.facts a exact c m called

      told : has_hijacked_in w c ≡ true → tells_apart w l.facts all written m ≡ true
      told e = subst (λ (b : Bool). (not b || tells_apart w l.facts all written m) ≡ true) e q.1

      by_kind : (k : Kind) → is_told k ≡ true → is_ancestor w (kind_class k) c ≡ true → Answers w has c (kind_class k) m
      by_kind k is e =
          let t : Target (kind_class k) m = target_of entries files w l.facts a exact (kind_class k) m (on_hijacked (kind_class k) c (holds (Called c m) called) (kind_hijacked k) (stands_above w (kind_class k) c e)) in
          let there = dispatch_there entries files l all written ps a bodies p methods exact owned m (told (some_below w c free k e)) in
          let case = has_case w l.facts m there.cases there.are_told k is t.owner t.target in
          let its = told_case w l.facts m there.cases there.are_told case.case case.among in
          let target = subst (λ (x : Kind). IsReachedTarget w l.facts (kind_class x) m case.case.owner) case.kind_is its.target in
          answered c m (kind_class k) e case.case.owner target (there.owners case.case case.among)

      by : (d : Name) → IsClassBelow w has c d → Answers w has c d m
      by _ (made_below d is_made sub) =
          let r = and_parts (is_among written d) (list_any (makes d) l.facts) is_made in
          let made_fact = made_known l.facts d r.1 in
          let k = live_there d (made_lives entries files w l.facts a exact d made_fact) in
          let e = class_below w c free d (known_class w d k.0 k.1) sub in
          let there = finds entries files l all written ps a bodies p methods exact owned c m called d ((among written d).0 r.0) made_fact (stands_above w d c e) in
          answered c m d e there.owner there.target there.here
      by _ (kind_below o d of sub) = let k = told_kind w c free o d of sub in subst (λ (n : Name). Answers w has c n m) k.is (by_kind k.kind k.told k.below)

  -- an array has the target of a method that is called on arrays, where the class of all objects is made
  on_arrays : (m : MethodName) → has.on_arrays m ≡ true → has.made object ≡ true → Answers w has object object m
  on_arrays m h is_made =
      let r = and_parts (is_among written object) (list_any (makes object) l.facts) is_made in
      let called : Contains l.facts (Called object m) = called_known l.facts object m h in
      let made_fact : Contains l.facts (Made object) = made_known l.facts object r.1 in
      let k = live_there object (made_lives entries files w l.facts a exact object made_fact) in
      let e = class_below w object refl object (known_class w object k.0 k.1) (to_any refl (λ e. cc)) in
      let there = finds entries files l all written ps a bodies p methods exact owned object m called object ((among written object).0 r.0) made_fact (stands_above w object object e) in
      answered object m object e there.owner there.target there.here

  -- a reflective name by which receivers are called has an answer in each class: objects find it by their entries, a primitive value has a case, and where there is no method its exception can be
  -- made
  named_answers : (m : MethodName) → has.reflected m ≡ true → (d : Name) → IsClassBelow w has object d → AnswersByName w has d m
  named_answers m h d below = by d below
    where
      there : ReflectionThere l ps written p.helpers m
      there = reflection_there entries files l all written ps a bodies p methods exact owned m h

      nothing : (e : Name) → proxy_target w e m ≡ None → AnswersByName w has e m
      nothing = unnamed entries files w l.facts a exact all bodies its_live p.helpers written (thrown Method there.thrower there.here) m

      named : (e : Name) (t : MethodDef) → proxy_target w e m ≡ Some t → (owner : Name) → IsReachedTarget w l.facts e t.name owner → Contains written owner → AnswersByName w has e m
      named = name_answers entries files w l.facts a exact all bodies its_live p.helpers written m

      by_object : (e : Name) → Contains written e → Contains l.facts (Made e) → AnswersByName w has e m
      by_object e here is_made = go (answer_there entries files l all written ps a bodies p methods exact owned m there.called e here is_made)
        where
          go : NamedThere l ps written p.helpers e m → AnswersByName w has e m
          go (not_named none entries) = nothing e none
          go (is_named t is params hands found) = named e t is found.owner found.target found.here

      by_kind : (k : Kind) → is_told k ≡ true → AnswersByName w has (kind_class k) m
      by_kind k is = go (proxy_target w (kind_class k) m) refl
        where
          kind_case : {t : MethodDef} → (proxy_target w (kind_class k) m ≡ None) ⊎ HasReflected there.cases k → proxy_target w (kind_class k) m ≡ Some t → HasReflected there.cases k
          kind_case (inl none) e = none_is_some _ (sym none ∙ e)
          kind_case (inr case) e = case

          go : (o : Option MethodDef) → proxy_target w (kind_class k) m ≡ o → AnswersByName w has (kind_class k) m
          go None e = nothing (kind_class k) e
          go (Some t) e =
              let case = kind_case (kind_reflected w l.facts m there.cases there.are_reflected k is (λ d f. let its = kind_target entries files w l.facts a exact m there.called k d f in (its.owner, its.target))) e in
              let its = reflected_case w l.facts m there.cases there.are_reflected case.case case.among in
              let reached_case = subst (λ (x : Kind). IsReflectedTarget w l.facts (kind_class x) m case.case.method case.case.owner) case.kind_is its.target in
              let proxy = proxy_right w (kind_class k) m t e in
              let same : case.case.method ≡ t.name = reached_case.method_is ∙ one_method entries files w a (kind_class k) m reached_case.definition t reached_case.declared_by proxy.0 reached_case.proxy proxy.1 in
              named (kind_class k) t e case.case.owner (subst (λ (x : MethodName). IsReachedTarget w l.facts (kind_class k) x case.case.owner) same reached_case.target) (there.owners case.case case.among)

      by : (d : Name) → IsClassBelow w has object d → AnswersByName w has d m
      by _ (made_below d is_made sub) = let r = and_parts (is_among written d) (list_any (makes d) l.facts) is_made in by_object d ((among written d).0 r.0) (made_known l.facts d r.1)
      by _ (kind_below o d of sub) = let k = told_kind w object refl o d of sub in subst (λ (n : Name). AnswersByName w has n m) k.is (by_kind k.kind k.told)

  pub run : CanRun w entries l.facts all its_live p.helpers written
  run = record {
    reached = holds;
    whole = λ f. (exact f).1;
    are_built = λ e i here. accepted_bodies entries files w l.facts all its_live p.helpers written a bodies uses e i here;
    closed = λ h g i u. (p.are_helpers.exact g).1 (by_helper h g ((p.are_helpers.exact h).0 i) u);
    thrown = thrown;
    listed = listed entries files w l.facts a exact all bodies;
    casts = cast_throws;
    loads = loaded entries files w l.facts a exact all bodies;
    on_arrays = on_arrays;
    looked = answers;
    reflected = named_answers;
  }

  -- where the class of arrays is a helper, the class that it extends is live
  pub extends : Contains p.helpers ArrayClass → IsLive w l.facts object
  extends = arrays_extend entries files l all ps a bodies exact p

  pub named : AreNamed w
  named = record { kept = λ c i. (judged entries files w a c i).unbroken; class_names = class_named entries files w a }

  -- an initializer of a written class is linked
  pub starts : (e : EntryPoint) → Contains entries e → Contains written e.class → has.linked (initializer_member e) ≡ true
  starts e i here = and_from (is_among written e.class) (has_function all (initializer_member e)) ((among written e.class).1 here) (entry w entries all bodies e i)

pub runs : WrittenPiecesRun
runs entries files l all ps a bodies exact p methods written owned = record {
  live = its_live entries files l all ps a bodies exact p methods written owned;
  are_live = lives entries files l all ps a bodies exact p methods written owned;
  can_run = run entries files l all ps a bodies exact p methods written owned;
}
