use Rattle.std.proofs.Common.{ℕ, Bool}
use Rattle.std.proofs.lemmas.Result.{err_from_is_err_and}
use Rattle.refusal.specs.declared.Part.TheVariants.{Record}
use Rattle.steps.specs.Given.{tag}
use Rattle.steps.specs.Steps.{Tag}
use Rattle.redbin.specs.Reading.{Setting, Reads, word, any_word, room, bare, return, ◌>>=◌, ◌>>◌}
use Rattle.load_file.specs.declared.scope.Fields.{Fields}
use Rattle.load.proofs.Filling.{field_fill}
use Rattle.load_file.proofs.Chains.{add_then, add_stop, fill_end}
use Rattle.load_file.proofs.starts.object_start.Goals as goal

-- what is left to read behind each field
module _ (owner : Bool) (place : ℕ) (l : Tag) where
  abbrev fields_of : ℕ → ℕ → ℕ → Fields
  fields_of class on_set arity = record { owner = owner; class = class; on_set = on_set; arity = arity }

  abbrev arity_then : ℕ → ℕ → Setting → ℕ → Reads Fields
  arity_then class on_set c arity = room c place (bare l.name) >> return (fields_of class on_set arity)

  abbrev on_set_then : ℕ → Setting → ℕ → Reads Fields
  on_set_then class c on_set = word c.size Record >>= arity_then class on_set c

  abbrev class_then : Setting → ℕ → Reads Fields
  class_then c class = any_word c.size Record >>= on_set_then class c

pub returns-in_err-check_room : goal.returns-in_err-check_room
returns-in_err-check_room c =
    let p = err_from_is_err_and c.from_residual-in_err-check_room.result c.from_residual-in_err-check_room.ensures.1 in
    let b = c.args.store.now in
    let w = c.args.owner in
    let s = c.args.start.place in
    let l = tag c.args.start.label in
    let class = c.in_ok-class.class in
    let on_set = c.in_ok-on_set.on_set in
    rw (p.1, p.2) (field_fill c.args.reader.now _ b (λ n. word n Record) (class_then w s l) _ b class _ c.in_ok-class.ensures
    (field_fill _ _ b (λ n. any_word n Record) (on_set_then w s l class) _ b on_set _ c.in_ok-on_set.ensures
    (field_fill _ c.word-2.new.self b (λ n. word n Record) (arity_then w s l class on_set) _ b _ _ c.in_ok-arity.ensures
    (add_stop _ b b (λ k. room k s (bare l.name)) (λ _. return (fields_of w s l class on_set c.in_ok-arity.arity)) _ c.in_err-check_room.ensures))))

pub returns : goal.returns
returns c =
    let b = c.args.store.now in
    let w = c.args.owner in
    let s = c.args.start.place in
    let l = tag c.args.start.label in
    let class = c.in_ok-class.class in
    let on_set = c.in_ok-on_set.on_set in
    field_fill c.args.reader.now _ b (λ n. word n Record) (class_then w s l) _ b class _ c.in_ok-class.ensures
    (field_fill _ _ b (λ n. any_word n Record) (on_set_then w s l class) _ b on_set _ c.in_ok-on_set.ensures
    (field_fill _ c.word-2.new.self b (λ n. word n Record) (arity_then w s l class on_set) _ b _ _ c.in_ok-arity.ensures
    (add_then _ b b (λ k. room k s (bare l.name)) (λ _. return (fields_of w s l class on_set c.in_ok-arity.arity)) _ b _ c.in_ok-check_room.ensures (fill_end _ b _))))
