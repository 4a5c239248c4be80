-- Lemmas on lists of servers.
mod ListLemmas
