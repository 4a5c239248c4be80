mod BookLemmas
mod NoteLemmas
