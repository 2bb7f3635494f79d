mod WriterLemmas
