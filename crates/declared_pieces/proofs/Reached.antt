-- What calls run where all that is reachable resolves, in a world with a list of its facts: the target is a body that is needed, and where its function is written the call has an answer.
use Rattle.std.proofs.Common.{◌≡◌, true, false, List, Option, Some, None, sym, ap, subst, Contains}
use Rattle.std.specs.Prelude.{◌↔◌}
use Rattle.std.specs.List.{list_any}
use Rattle.std.proofs.lemmas.Bool.{and_from}
use Rattle.std.proofs.lemmas.List.Folds.{Any-from_list_any}
use Rattle.declared_pieces.proofs.Below.{kind_hijacked}
use Rattle.declared_pieces.proofs.Forms.{body_tells, load_form}
use Rattle.declared_pieces.proofs.Live.{classes_kept, live_free}
use Rattle.sj_emit_help_spec.specs.Words.{kind_class}
use Rattle.sj_emit_help_spec.specs.declared.kinds.Helper.{Helper}
use Rattle.sj_emit_help_spec.specs.declared.kinds.Kind.{Kind}
use Rattle.ir_mean.specs.Dispatch.{is_ancestor, proxy_target}
use Rattle.ir_mean.specs.Meaning.{no_such_method}
use Rattle.object_helpers.proofs.Calls.{needed}
use Rattle.object_helpers.proofs.Defined.{last}
use Rattle.object_helpers.proofs.Derivations.{closed}
use Rattle.object_helpers.proofs.Members.{defined, has_function-from}
use Rattle.object_helpers.proofs.Pieces.{name_asked}
use Rattle.object_helpers.proofs.Plain.{plain_world}
use Rattle.object_helpers.proofs.Proxies.{proxy_right, proxy_params, proxy_resolves}
use Rattle.object_helpers.proofs.Resolves.{each_call_resolves}
use Rattle.object_helpers.proofs.Running.{targets_run}
use Rattle.object_helpers.proofs.Throwing.{exception_made}
use Rattle.object_helpers.proofs.Topped.{topped}
use Rattle.object_helpers.proofs.WorkedOut.{targets_are_worked_out}
use Rattle.object_helpers.specs.Accepted.{IsAccepted}
use Rattle.object_helpers.specs.Bodies.{AreBodies}
use Rattle.object_helpers.specs.AgreeSoundnessLaws.{Answers, AnswersByName, no_method, has_method}
use Rattle.object_helpers.specs.Built.{Usable}
use Rattle.object_helpers.specs.EmittedMethods.{EmittedMethod, HasFunction}
use Rattle.object_helpers.specs.Entries.{IsLive, IsTarget, IsReflective}
use Rattle.object_helpers.specs.Linked.{has_function}
use Rattle.object_helpers.specs.Reachable.{Reachable}
use Rattle.object_helpers.specs.Refusals.{abstract_target, no_dispatched_body, no_dispatched_method, no_reflective_body}
use Rattle.object_helpers.specs.Rules.{IsCalledOn, Rule, call, reflective, reflective_hijacked, dispatched, public_member, plain_constructor, load_made, asked_body, of_load, Reads}
use Rattle.object_helpers.specs.Running.{CanBeThrown}
use Rattle.object_helpers.specs.Targets.{IsTargetOf, at_owner}
use Rattle.object_helpers.specs.Used.{used_of, is_among, is_loaded, is_reflective, is_called_by}
use Rattle.object_helpers.specs.Worlds.{AreClassesKept}
use Rattle.file_declarations.specs.Dispatch.{IsReachedTarget}
use Rattle.sj_infos.specs.Forms.{forms_in, forms_by_body}
use Rattle.sj_infos.specs.declared.forms.BodyForm.{BodyForm}
use Rattle.sj_infos.specs.declared.forms.BodyForm.TheVariants as forms
use Rattle.sj_infos.specs.declared.infos.Info.TheVariants as infos
use Rattle.sj_names.proofs.Same.{impossible, method-same}
use Rattle.sj_names.specs.declared.entry_points.EntryPoint.{EntryPoint}
use Rattle.sj_names.specs.declared.folders.SourceFile.{SourceFile}
use Rattle.sj_names.specs.declared.method_names.MethodName.{MethodName}
use Rattle.sj_trees.specs.Term.{Term}
use Rattle.sj_trees.specs.declared.classes.MethodDef.{MethodDef}
use Rattle.sj_world.proofs.OnCycles.{among}
use Rattle.sj_world.specs.Calls.{IsProxyTarget}
use Rattle.sj_world.specs.Known.{Name, Classes, is_hijacked}
use Rattle.sj_world.specs.Paths.{stay}
use Rattle.sj_world.specs.Resolution.{Answer, target, abstract, missing, Resolves}
use Rattle.sj_world.specs.declared.facts.Fact.{Fact}
use Rattle.sj_world.specs.declared.facts.Fact.TheVariants.{Body, Called, Made}

form_is : (m : MethodName) (f : BodyForm) → is_reflective m f ≡ true → f ≡ forms.Reflective m
form_is m (forms.Reflective n) h = ap forms.Reflective (sym (method-same m n h))
form_is m _ h = impossible h

module _ (entries : List EntryPoint) (files : List SourceFile) (w : Classes) (facts : List Fact) (a : IsAccepted entries files w) (exact : (f : Fact) → Contains facts f ↔ Reachable w entries f) where
  kept : AreClassesKept w
  kept = classes_kept entries files w a

  reached : (f : Fact) → Contains facts f → Reachable w entries f
  reached f = (exact f).0

  -- what a call runs on values of a class on which the method is called
  pub record HasTarget (d : Name) (m : MethodName) : Type 0 where
    pub owner : Name
    pub target : IsReachedTarget w facts d m owner

  pub target_of : (d : Name) (m : MethodName) → IsCalledOn w entries (Reachable w entries) m d → HasTarget d m
  target_of d m on = let its = each_call_resolves w a.world.sorted.in_order d m in go its.answer its.resolves
    where
      go : (r : Answer) → Resolves w d m r → HasTarget d m
      go (target body owner) s = record { owner = owner; target = record { is_target = record { body = body; resolves = s }; reached = (exact (Body (public_member owner m))).1 (closed w entries (Body (public_member owner m)) (dispatched d m body owner on s)) } }
      go abstract s = absurd (a.resolved (abstract_target (public_member d m)) (no_dispatched_body d m on s))
      go missing s = absurd (a.resolved (abstract_target (public_member d m)) (no_dispatched_method d m on s))

  pub runs_target : (d : Name) (m : MethodName) (owner : Name) → IsTarget w d m owner → IsTargetOf w (public_member d m) (public_member owner m)
  runs_target d m owner t = subst (IsTargetOf w (public_member d m)) (ap (at_owner (public_member d m)) (targets_are_worked_out w a.world.sorted.in_order d m (target t.body owner) t.resolves)) (targets_run w (topped w (plain_world w kept.superclass kept.hijacked)) (public_member d m))

  pub made_lives : (d : Name) → Contains facts (Made d) → IsLive w facts d
  made_lives d i = record { made = d; is_made = i; on_chain = stay }

  -- the class of a call that is looked up isn't hijacked
  pub called_free : (c : Name) (m : MethodName) → Contains facts (Called c m) → is_hijacked c ≡ false
  called_free c m i = go (last w entries (Called c m) (reached (Called c m) i))
    where
      go : Rule w entries (Reachable w entries) (Called c m) → is_hijacked c ≡ false
      go (call _ _ reads free) = free
      go (reflective _ p d owner reads is_made its) = live_free entries files w a facts reached c (made_lives c ((exact (Made c)).1 is_made))

  module _ (m : MethodName) (r : IsReflective w facts m) where
    pub name_read : Reads w entries (Reachable w entries) (infos.Reflective m)
    name_read = record { member = r.member; needed = reached (Body r.member) r.needed; definition = r.definition; defined = r.defined; asked = name_asked m r.definition.body r.calls }

    -- the target of a hijacked class
    pub kind_target : (k : Kind) (t : MethodDef) → proxy_target w (kind_class k) m ≡ Some t → HasTarget (kind_class k) t.name
    kind_target k t e = let its = each_call_resolves w a.world.sorted.in_order (kind_class k) t.name in go its.answer its.resolves
      where
        proxied : (owner : Name) × IsProxyTarget w (kind_class k) m t owner
        proxied = proxy_right w (kind_class k) m t e

        go : (o : Answer) → Resolves w (kind_class k) t.name o → HasTarget (kind_class k) t.name
        go (target body owner) s = record { owner = owner; target = record { is_target = record { body = body; resolves = s }; reached = (exact (Body (public_member owner t.name))).1 (closed w entries (Body (public_member owner t.name)) (reflective_hijacked (kind_class k) m t body proxied.0 owner name_read (kind_hijacked k) proxied.1 s)) } }
        go abstract s = absurd (a.resolved (abstract_target (public_member (kind_class k) t.name)) (no_reflective_body (kind_class k) m t proxied.0 name_read (kind_hijacked k) proxied.1 s))
        go missing s = absurd (proxy_resolves w (kind_class k) m t proxied.0 proxied.1 s)

  module _ (all : List EmittedMethod) (bodies : AreBodies w entries all) where
    pub listed : (e : EmittedMethod) → Contains all e → Contains facts (Body e.member)
    listed e i = (exact (Body e.member)).1 (needed w entries all bodies e i)

    -- a needed body calls by the name
    pub called_by : (m : MethodName) → is_called_by all m ≡ true → IsReflective w facts m
    called_by m h =
        let f = Any-from_list_any (λ (e : EmittedMethod). list_any (is_reflective m) (forms_in e.its_body)) all h in
        let e : EmittedMethod = f.1 in
        let i : Contains all e = (f.0, f.2, f.3) in
        let g = Any-from_list_any (is_reflective m) (forms_in e.its_body) f.4 in
        let found = bodies.found e i in
        record {
          member = e.member;
          needed = listed e i;
          definition = e.definition;
          defined = defined w e.member e.definition found.found;
          calls = subst (λ (o : Option Term). Contains (forms_by_body o) (forms.Reflective m)) (sym found.has_body) (subst (Contains (forms_in e.its_body)) (form_is m g.1 g.4) (g.0, g.2, g.3));
        }

    -- a module that bodies load is made, and so is its constructor
    pub loaded : (c : Name) → is_loaded all c ≡ true → Contains facts (Made c) × HasFunction all (plain_constructor c)
    loaded c h =
        let form = load_form w entries facts all bodies listed c h in
        let reads : Reads w entries (Reachable w entries) (infos.Load c) = record { member = form.member; needed = reached (Body form.member) form.needed; definition = form.definition; defined = form.defined; asked = body_tells form.definition.body (forms.Load c) form.has } in
        ((exact (Made c)).1 (closed w entries (Made c) (load_made c reads)), (bodies.exact (plain_constructor c)).1 (closed w entries (Body (plain_constructor c)) (asked_body (plain_constructor c) (of_load c reads))))

    module _ (live : List Name) (helpers : List Helper) (written : List Name) where
      abbrev has : Usable
      has = used_of w facts all live helpers written

      received : (m : MethodName) (owner : Name) → Contains facts (Body (public_member owner m)) → Contains written owner → has.received (public_member owner m) ≡ true
      received m owner reached_body here = and_from (is_among written owner) (has_function all (public_member owner m)) ((among written owner).1 here) (has_function-from all (public_member owner m) ((bodies.exact (public_member owner m)).1 (reached (Body (public_member owner m)) reached_body)))

      -- a class has the target of a method that is called above it, where the function of that is written
      pub answered : (c : Name) (m : MethodName) (d : Name) → is_ancestor w d c ≡ true → (owner : Name) → IsReachedTarget w facts d m owner → Contains written owner → Answers w has c d m
      answered c m d below owner t here = record { below = below; owner = owner; received = received m owner t.reached here; target = runs_target d m owner t.is_target }

      -- and that of a reflective name
      pub named : (m : MethodName) (d : Name) (t : MethodDef) → proxy_target w d m ≡ Some t → (owner : Name) → IsReachedTarget w facts d t.name owner → Contains written owner → AnswersByName w has d m
      named m d t is owner reached_target here =
          let its = proxy_right w d m t is in
          has_method t owner is (proxy_params w d m t its.0 its.1) (received t.name owner reached_target.reached here) (runs_target d t.name owner reached_target.is_target)

      -- where there is no method of the name, its exception can be made
      pub unnamed : CanBeThrown facts all written no_such_method → (m : MethodName) (d : Name) → proxy_target w d m ≡ None → AnswersByName w has d m
      unnamed thrown m d none = let can = exception_made w facts all live helpers written no_such_method thrown in no_method none can.0 can.1
