mod KeywordLemmas
