use Rattle.std.proofs.Common.{◌≡◌, ◌<◌, ◌++◌, ◌+◌, List, ℕ, [], ap, ◌∙◌, length, get_or, take, drop, arith}
use Rattle.std.specs.Prelude.{if◌then◌else◌, nat_eq}
use Rattle.std.specs.Cmp.Lexicographic.{pointwise}
use Rattle.std.proofs.lemmas.List.{get_or_default}
use Rattle.module_names.specs.Counts.{count_at}
use Rattle.module_names.specs.Names.{Key, sha1_digest, internal_name, count_with, names_behind}
use Rattle.module_names.proofs.Behind.{names_more, counted_more}
use Rattle.module_names.proofs.naming.internal_names.Goals as goal

pub loop-key-preserved : goal.loop-key-preserved
loop-key-preserved c =
    let keys : List Key = c.args.keys.now in
    let place : ℕ = c.loop-key.key-index in
    let within : place < length keys = omega arith in
    let digest = c.in_ok-digest.digest in
    let of_key : digest ≡ sha1_digest (get_or keys place []) = c.in_ok-digest.ensures ∙ ap sha1_digest (c.key-item.is ∙ get_or_default keys place c.key-item.result [] within) in
    record {
      names =
          ap (λ names. names ++ names_behind sha1_digest (take (place + 1) keys) (drop (place + 1) keys)) c.in_ok-push.ensures.items
          ∙ names_more sha1_digest keys place within c.loop-key.names.items c.in_ok-name.field-0 (c.in_ok-name.ensures ∙ ap (λ n. internal_name digest n) (c.in_ok-earlier.ensures.before ∙ c.loop-key.invariant.counts digest) ∙ ap (λ d. internal_name d (count_with sha1_digest (take place keys) d)) of_key)
          ∙ c.loop-key.invariant.names;
      counts = λ other. counted_more sha1_digest keys place within (count_at c.loop-key.counts other) (count_at c.add.new.self other) other (c.loop-key.invariant.counts other) (c.in_ok-earlier.ensures.counted other ∙ ap (λ d. if pointwise nat_eq d other then count_at c.loop-key.counts other + 1 else count_at c.loop-key.counts other) of_key);
    }
