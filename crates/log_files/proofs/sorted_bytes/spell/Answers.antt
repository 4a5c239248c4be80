use Rattle.std.proofs.Common.{rules, codes, ◌∙◌, ◌++◌, sym, ap, length, map}
use Rattle.std.proofs.lemmas.List.{length-map}
use Rattle.log_files.specs.Mutations.{Bytes}
use Rattle.log_files.proofs.SortLemmas.{shown}
use Rattle.log_files.proofs.SortedLemmas.{sorted_put}
use Rattle.log_files.proofs.sorted_bytes.spell.Goals as goal

pub returns : goal.returns
returns c = record {
  is =
      sorted_put (map shown c.args.mutations.now) (length c.args.mutations.now) c.extend_from_slice.new.self.items c.put_u64.new.out.items c.put_entries.new.out.items
      (c.in_ok-extend_from_slice.ensures.items ∙ ap (λ (l : Bytes). l ++ codes "ACMLOG01") c.new-bytes.ensures.items)
      c.in_ok-put_u64.ensures.ok c.in_ok-put_entries.ensures (sym (length-map c.args.mutations.now shown));
  each = c.requires.each;
  in_order = c.requires.in_order;
  short = search rules;
}
